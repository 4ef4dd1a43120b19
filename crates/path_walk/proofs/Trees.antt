-- The walk over the rows of a spanning tree, from any vertex: after n steps the column of each vertex is the tree path to it.
-- Assumes nothing.
use Prim.Native.Nat.{ℕ, ◌*◌, ◌≤◌}
use lib.ListN.{length}
use mathlib.Core.Bool.{Bool, true}
use mathlib.Core.List.{List}
use mathlib.Core.Path.{◌≡◌, ◌∙◌, ap}
use native.Mathlib.Omega.{arith}
use Rattle.graph_theory.proofs.Path.{path_inside, tree-joined}
use Rattle.graph_theory.proofs.Trail.{trail-vertices, trail-columns}
use Rattle.graph_theory.specs.Graph.{Graph, Sound, joined}
use Rattle.graph_theory.specs.Tree.{SpanningTree, on_path}
use Rattle.graph_theory.specs.Steps.Trail.{trail}
use Rattle.path_matrix.proofs.Laws.{matrix_column-words}
use Rattle.path_matrix.specs.Matrix.{matrix_column}
use Rattle.rowset.proofs.Laws.{both-inside}
use Rattle.rowset.specs.Words.{column_words, column_words_from}
use Rattle.slice.specs.Slices.{size}
use Rattle.path_walk.proofs.Walks.{walk-shows}
use Rattle.path_walk.specs.Steps.Walks.{walk}

module _ (g : Graph) (ok : Sound g) (T : ℕ → Bool) (tree : SpanningTree g T) (few : g.n ≤ size) (short : g.m ≤ size) where
  -- a row of a tree path is a row of the table
  pub path-bounds : (u v i : ℕ) → on_path g T u v i ≡ true → (1 ≤ i) × (i ≤ g.m)
  path-bounds u v i e = ok.position i (tree.inside i (path_inside g ok T tree u v i e))

  module _ (u : ℕ) (lu : 1 ≤ u) (hu : u ≤ g.n) (words : List ℕ) (room : column_words * g.n ≤ length words) where
    -- the columns are the paths
    pub walked-path : (v : ℕ) → 1 ≤ v → v ≤ g.n → matrix_column (walk g.a g.b T u words g.n).words v ≡ on_path g T u v
    unfolding joined
    walked-path v lv hv =
        let shown = walk-shows g ok T tree.inside few short u lu hu words room g.n in
        let reached : (trail g T u g.n).vertices v ≡ true = ap (λ (p : ℕ → Bool). p v) (trail-vertices g T u g.n) ∙ tree-joined g ok T tree u v lu hu lv hv in
        let column = shown.columns v reached ∙ ap (λ (p : ℕ → Bool). column_words_from p 0 column_words) (trail-columns g ok T tree u lu hu g.n v reached) in
        matrix_column-words (walk g.a g.b T u words g.n).words v lv (omega (arith, shown.room)) (on_path g T u v) column
        ∙ both-inside size (on_path g T u v) (λ i e. let b = path-bounds u v i e in (b.0, omega (arith, b.1)))

    -- and there is one for each vertex
    pub walked-room : column_words * g.n ≤ length (walk g.a g.b T u words g.n).words
    walked-room = (walk-shows g ok T tree.inside few short u lu hu words room g.n).room
