-- The walk over the marked rows of an accepted table: after n steps it has reached just the vertices joined to s, and over a spanning tree its words are the tree paths.
-- Assumes nothing.
use Prim.Native.Nat.{ℕ, ◌*◌, ◌≤◌}
use borrow.Author.Tests.{eqb-true, not-false}
use lib.ListN.{length, take}
use mathlib.Core.Bool.{Bool, true}
use mathlib.Core.List.{List}
use mathlib.Core.Option.{none}
use mathlib.Core.Path.{◌≡◌, sym, ap, ◌∙◌}
use native.Mathlib.Omega.{arith}
use Rattle.graph_theory.specs.Graph.{Inside, Walk, joined}
use Rattle.graph_theory.specs.Steps.Trail.{trail}
use Rattle.graph_theory.specs.Tree.{SpanningTree}
use Rattle.graph_theory.proofs.Joined.{unjoined-none}
use Rattle.graph_theory.proofs.Path.{tree-joined}
use Rattle.graph_theory.proofs.Reach.{walk-then, walk-back}
use Rattle.graph_theory.proofs.Trail.{trail-vertices, trail-columns}
use Rattle.rowset.specs.Bytes.{in_row}
use Rattle.rowset.specs.Words.{column_words, column_words_from, matrix_words}
use Rattle.rowset.proofs.Members.{both-in}
use Rattle.path_matrix.proofs.Laws.{columns-whole}
use Rattle.star_spec.specs.Call.{Call, used, graph_of, marked, claimed}
use Rattle.star_spec.specs.MatrixPath.{path_column}
use Rattle.star_spec.specs.Refusals.{bad_count, unjoined}
use Rattle.star_spec.proofs.Accepted.{Taken, sound, cause-none, cause_at-none}
use Rattle.path_walk.specs.Steps.Walks.{State, walk}
use Rattle.path_walk.proofs.Walks.{Shows, walk-shows}

-- the walk of n steps from s over the marked rows
abbrev pub walked : Call → ℕ → List ℕ → State
walked c s words = walk (in_row 1 c.left) (in_row 1 c.right) (claimed c) s words c.n

module _ (c : Call) (t : Taken c) (s : ℕ) (low : 1 ≤ s) (high : s ≤ c.n) where
  -- the rows that the claim marks are rows of the table
  inside : Inside (graph_of c) (claimed c)
  unfolding graph_of claimed
  inside i e = (both-in (used c) (marked c.mark) i e).0

  -- a claim with n − 1 marks whose rows join every vertex to s is a spanning tree
  pub joined-tree : bad_count c ≡ none → unjoined c s ≡ none → SpanningTree (graph_of c) (claimed c)
  unfolding bad_count unjoined graph_of
  joined-tree marks joins =
      record {
        inside = inside;
        marks = eqb-true _ _ (not-false _ (cause-none _ 9 0 marks));
        reached = λ v l h. walk-then (walk-back (from 1 (omega arith) t.some-vertex)) (from v l h);
      }
    where
      from : (v : ℕ) → 1 ≤ v → v ≤ c.n → Walk (graph_of c) (claimed c) s v
      from = unjoined-none (graph_of c) (sound c t) (claimed c) inside s low high (cause_at-none 10 _ joins)

  module _ (words : List ℕ) (room : column_words * c.n ≤ length words) where
    -- the walk shows the trail
    shown : Shows (graph_of c) (claimed c) (trail (graph_of c) (claimed c) s c.n) (walked c s words)
    unfolding graph_of
    shown = walk-shows (graph_of c) (sound c t) (claimed c) inside (omega (arith, t.few-vertices)) t.few-rows s low high words room c.n

    -- the vertices reached are those joined to s
    pub walked-joined : (walked c s words).reached ≡ joined (graph_of c) (claimed c) s
    unfolding graph_of joined
    walked-joined = shown.reached ∙ trail-vertices (graph_of c) (claimed c) s c.n

    -- over a spanning tree the first 16 · n words are the tree paths from s
    pub walked-paths : SpanningTree (graph_of c) (claimed c) → take (column_words * c.n) (walked c s words).words ≡ matrix_words (path_column c s) c.n
    unfolding path_column graph_of
    walked-paths tree =
        columns-whole (path_column c s) c.n (walked c s words).words
        (λ v l h. shown.columns v (reached v l h)
        ∙ ap (λ (p : ℕ → Bool). column_words_from p 0 column_words) (trail-columns (graph_of c) (sound c t) (claimed c) tree s low high c.n v (reached v l h)))
      where
        reached : (v : ℕ) → 1 ≤ v → v ≤ c.n → (trail (graph_of c) (claimed c) s c.n).vertices v ≡ true
        reached v l h =
            ap (λ (p : ℕ → Bool). p v) (sym shown.reached ∙ walked-joined)
            ∙ tree-joined (graph_of c) (sound c t) (claimed c) tree s v low high l h
