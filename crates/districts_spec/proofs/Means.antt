-- What districts and city mean of the table (districts-hold, refusal-keeps): the definitions on the columns are those of the graph, whose theorem is cited.
-- Assumes nothing.
use Prim.Native.Nat.{ℕ, ◌≤◌}
use lib.IntN.{ℤ}
use lib.ListN.{length}
use mathlib.Core.Bool.{Bool, true, false}
use mathlib.Core.List.{List, [], ◌∷◌}
use mathlib.Core.Option.{Option, none, some}
use mathlib.Core.Path.{◌≡◌, refl, sym, ◌∙◌, ap, subst}
use Rattle.star_meaning.proofs.Demand3.{unbuilt-built, ok, least-claim, least-passed}
use Rattle.star_meaning.specs.Demand3.{ClaimTree, LeastClaim}
use Rattle.districts_theory.proofs.Districts as theory
use Rattle.districts_theory.specs.Districts.{run, rises_to, forests, districts, EachRun, Districts}
use Rattle.districts_theory.specs.Forest.{LeastForest}
use Rattle.graph_theory.specs.Builder.{Fragment}
use Rattle.graph_theory.specs.Graph.{Inside}
use Rattle.graph_theory.specs.Least.{Least}
use Rattle.graph_theory.specs.Tree.{SpanningTree}
use Rattle.refusal.specs.declared.Refusal.{Refusal}
use Rattle.rowset.proofs.Laws.{both-subset}
use Rattle.rowset.specs.Integers.{total}
use Rattle.rowset.specs.Sets.{both}
use Rattle.star_spec.proofs.Accepted.{used-row, accepted-means, taken}
use Rattle.star_spec.proofs.Claims.{marked-claim_of, claim_of-length, claim_of-bytes}
use Rattle.star_spec.specs.Accepted.{Row}
use Rattle.star_spec.specs.Call.{Call, rows_of, used, graph_of, weight_of, marked, claimed, claim_weight, with_claim, claim_of}
use Rattle.star_spec.specs.Cst.{passed, only, cst}
use Rattle.star_spec.specs.Mst1.{unbuilt, tree_built, chosen_rows}
use Rattle.star_spec.specs.Refusals.{Accepted, cause, bad_vertices, too_many_rows, bad_lengths, bad_row, bad_ends, repeats, repeated_row, table_causes, is_none, or_else, refusal}
use Rattle.districts_spec.proofs.Causes.{causes-in-order, taken-means, words-rise}
use Rattle.districts_spec.specs.Districts.{forest_rows, city_tree, city_rows, no_city, run_causes, district_causes, answer_or, districts_answer, column_or, districts_forests, districts_marks}
use Rattle.districts_spec.specs.Means.{Taken, City, Holds, DistrictsHold, RefusalKeeps}

-- ── Claims of sets of rows in use ──

-- another claim of m bytes leaves the table accepted
accepted-claim : (c : Call) (l : List ℕ) → length l ≡ length c.mark → Accepted c → Accepted (with_claim c l)
unfolding used table_causes bad_vertices too_many_rows bad_lengths bad_row bad_ends repeated_row repeats
accepted-claim c l e a = rw e a

module _ (c : Call) (S : ℕ → Bool) (inside : Inside (graph_of c) S) where
  -- a row of the set is a row in use
  row_of : (i : ℕ) → S i ≡ true → Row c i
  unfolding graph_of
  row_of i h = used-row c i (inside i h)

  marks-set : marked (claim_of (rows_of c) S) ≡ S
  marks-set = marked-claim_of (rows_of c) S (λ i h. let (l, u, x) = row_of i h in (l, u))

  claims-set : claimed (with_claim c (claim_of (rows_of c) S)) ≡ S
  unfolding used graph_of claimed
  claims-set = ap (both (used c)) marks-set ∙ both-subset (used c) S inside

-- a least tree's claim is a least claim, which CST passes with its weight
module _ (c : Call) (a : Accepted c) (S : ℕ → Bool) (l : Least (graph_of c) (weight_of c) S) where
  abbrev d : Call
  d = with_claim c (claim_of (rows_of c) S)

  rows : claimed d ≡ S
  rows = claims-set c S l.tree.inside

  b : Accepted d
  b = accepted-claim c (claim_of (rows_of c) S) (claim_of-length (rows_of c) S ∙ sym (taken c a).mark-length) a

  tree-claim : ClaimTree d
  unfolding used graph_of
  tree-claim =
      record {
        bytes = claim_of-length (rows_of c) S;
        zero-or-one = λ i r. claim_of-bytes (rows_of c) S i;
        spanning = subst (λ (Q : ℕ → Bool). SpanningTree (graph_of c) Q) (sym rows) l.tree;
      }

  least-set : LeastClaim d
  unfolding used graph_of weight_of
  least-set = least-claim d b tree-claim (subst (λ (Q : ℕ → Bool). Least (graph_of c) (weight_of c) Q) (sym rows) l)

  weight-set : claim_weight d ≡ total (rows_of c) (weight_of c) S
  unfolding weight_of claim_weight
  weight-set = ap (total (rows_of c) (weight_of c)) rows

  passed-set : cst d ≡ passed (total (rows_of c) (weight_of c) S) (only d)
  passed-set = least-passed d b least-set ∙ ap (λ w. passed w (only d)) weight-set

-- ── What is built ──

module _ (c : Call) (F ends : List ℕ) (t : Taken c F ends) where
  a : Accepted c
  a = (accepted-means c).1 t.table

  -- the theorem about graphs
  known : Districts (graph_of c) (weight_of c) ends
  unfolding graph_of
  known = theory.districts-hold (graph_of c) (ok c a) (weight_of c) ends (words-rise c.m 0 ends t.rising)

  last-cause : refusal (district_causes c F ends) ≡ no_city c ends
  unfolding or_else
  last-cause = causes-in-order c F ends ∙ rw ((taken-means c F ends).1 t)

  -- the two forms of the answer
  data Grown : Type 0 where
    ungrown : city_tree c ends ≡ none → districts_answer c F ends ≡ unbuilt (record { number = 11; place = 0 }) → Grown
    grown : (f : Fragment) → city_tree c ends ≡ some f → districts_answer c F ends ≡ tree_built (total (rows_of c) (weight_of c) f.chosen)
        → districts_forests c F ends ≡ claim_of (rows_of c) (forest_rows c ends)
        → districts_marks c F ends ≡ claim_of (rows_of c) f.chosen
        → Grown

  growth : Grown
  unfolding districts_answer answer_or districts_forests districts_marks column_or no_city cause is_none city_rows chosen_rows
  growth = go (city_tree c ends) refl
    where
      after : (o : Option Fragment) → city_tree c ends ≡ o → refusal (district_causes c F ends) ≡ cause (is_none o) 11 0
      after o e = last-cause ∙ ap (λ x. cause (is_none x) 11 0) e

      go : (o : Option Fragment) → city_tree c ends ≡ o → Grown
      go none e = ungrown e (ap (answer_or c ends) (after none e))
      go (some f) e =
          grown f e
          (ap (answer_or c ends) (after (some f) e) ∙ ap (λ x. tree_built (total (rows_of c) (weight_of c) (chosen_rows x))) e)
          (ap (column_or (rows_of c) F (forest_rows c ends)) (after (some f) e))
          (ap (column_or (rows_of c) c.mark (city_rows c ends)) (after (some f) e) ∙ ap (λ x. claim_of (rows_of c) (chosen_rows x)) e)

  -- the forests' rows
  forests-inside : Inside (graph_of c) (forest_rows c ends)
  unfolding forest_rows
  forests-inside = known.rows-alone

  module _ (f : Fragment) (z : city_tree c ends ≡ some f) where
    built-least : Least (graph_of c) (weight_of c) f.chosen
    unfolding city_tree
    built-least = known.least-tree f z

    worth : City c (claim_of (rows_of c) (forest_rows c ends)) (claim_of (rows_of c) f.chosen) ends (total (rows_of c) (weight_of c) f.chosen)
    unfolding forest_rows city_tree
    worth =
        record {
          bytes = (claim_of-length (rows_of c) (forest_rows c ends), claim_of-length (rows_of c) f.chosen);
          zero-or-one = (claim_of-bytes (rows_of c) (forest_rows c ends), claim_of-bytes (rows_of c) f.chosen);
          rows = (λ i h. row_of c (forest_rows c ends) forests-inside i (rw forest-marks at h), λ i h. row_of c f.chosen built-least.tree.inside i (rw tree-marks at h));
          of-runs = rw forest-marks known.of-runs;
          from-forests = λ i h. rw forest-marks (known.from-forests f z i (rw tree-marks at h));
          least = least-set c a f.chosen built-least;
          weighs = weight-set c a f.chosen built-least;
          passes = (_, passed-set c a f.chosen built-least);
        }
      where
        forest-marks : marked (claim_of (rows_of c) (forest_rows c ends)) ≡ forest_rows c ends
        forest-marks = marks-set c (forest_rows c ends) forests-inside

        tree-marks : marked (claim_of (rows_of c) f.chosen) ≡ f.chosen
        tree-marks = marks-set c f.chosen built-least.tree.inside

  -- refused exactly where there is no spanning tree
  no-tree : districts_answer c F ends ≡ unbuilt (record { number = 11; place = 0 }) → (other : List ℕ) → ClaimTree (with_claim c other) → ⊥
  unfolding used graph_of weight_of city_tree
  no-tree e other o =
      elim growth [
        | ungrown z x ↦ known.no-tree z (claimed (with_claim c other)) o.spanning
        | grown f z x k l ↦ unbuilt-built e x
      ]

  holds : Holds c F ends
  holds =
      record {
        refuses = (no-tree, λ n. elim growth [ ungrown z x ↦ x | grown f z x k l ↦ absurd (n _ (tree-claim c a f.chosen (built-least f z))) ]);
        refuses-only = λ r e. elim growth [ ungrown z x ↦ cc | grown f z x k l ↦ absurd (unbuilt-built e x) ];
        built = λ other o. elim growth [ ungrown z x ↦ absurd (no-tree x other o) | grown f z x k l ↦ (_, x) ];
        city = λ weight e.
            elim growth [
              | ungrown z x ↦ absurd (unbuilt-built x e)
              | grown f z x k l ↦
                  let w : total (rows_of c) (weight_of c) f.chosen ≡ weight = cc in
                  rw (k, l, ← w) (worth f z)
            ];
      }

pub districts-hold : DistrictsHold
districts-hold c F ends t = holds c F ends t

pub refusal-keeps : RefusalKeeps
unfolding districts_answer answer_or districts_forests districts_marks column_or
refusal-keeps c F ends r e = go (refusal (district_causes c F ends)) refl
  where
    go : (o : Option Refusal) → refusal (district_causes c F ends) ≡ o → (districts_forests c F ends ≡ F) × (districts_marks c F ends ≡ c.mark)
    go none h = absurd (unbuilt-built e (ap (answer_or c ends) h))
    go (some q) h = (rw h, rw h)
