-- The answer and both columns in each of the three cases: the call is refused, there is no tree, or the forests and the tree are written.
-- Assumes nothing.
use Prim.Native.Nat.{ℕ, ◌≤◌, ◌<◌}
use borrow.Author.Tests.{not-true, not-false}
use lib.ListN.{length}
use mathlib.Core.Bool.{Bool, true, false, not}
use mathlib.Core.List.{List, [], ◌∷◌}
use mathlib.Core.Option.{Option, none, some}
use mathlib.Core.Path.{◌≡◌, refl, sym, ◌∙◌, ap}
use native.Mathlib.Nat.{mod-one}
use native.Mathlib.Omega.{arith}
use Rattle.std.specs.Prelude.{Result, Ok, Err, ⊤}
use Rattle.districts_spec.proofs.Causes.{checks-in-order, causes-in-order, none-applies, taken-means, words-rise}
use Rattle.districts_spec.specs.Districts.{bad_runs, bad_forests, forest_rows, city_tree, city_rows, no_city, run_causes, district_causes, answer_or, districts_answer, column_or, districts_forests, districts_marks}
use Rattle.districts_spec.specs.Means.{Taken}
use Rattle.districts.specs.Steps.Divided.{Divided}
use Rattle.districts_theory.proofs.Districts.{districts-hold}
use Rattle.districts_theory.specs.Districts.{forests, within, districts, Districts}
use Rattle.districts_forests.proofs.Cut.{forests-cut}
use Rattle.graph_theory.specs.Builder.{Fragment, tree}
use Rattle.mst1.proofs.Answers.{loaded-weights}
use Rattle.mst1.proofs.Cut.{over, tree-cut}
use Rattle.mst1.specs.Steps.Growth.{loaded_graph}
use Rattle.refusal.specs.Outcomes.{refusal_of}
use Rattle.refusal.specs.declared.Refusal.{Refusal}
use Rattle.rowset.proofs.Integers.{total-cut}
use Rattle.rowset.proofs.Laws.{refuted}
use Rattle.rowset.specs.Bytes.{in_row}
use Rattle.rowset.specs.Integers.{from_bits, signed, total}
use Rattle.rowset.specs.Sets.{empty}
use Rattle.slice.specs.Slices.{size}
use Rattle.star_spec.proofs.Accepted as accepted
use Rattle.star_spec.specs.Call.{Call, rows_of, used, graph_of, weight_of, claim_of}
use Rattle.star_spec.specs.Mst1.{BuildAnswer, unbuilt, tree_built, chosen_rows}
use Rattle.star_spec.specs.Refusals.{cause, is_none, bad_vertices, too_many_rows, table_causes, or_else, refusal}
use Rattle.table.proofs.Loads.{load-taken, loaded-taken}
use Rattle.table.specs.Loads.{loaded_row}

-- this answer is given, and these columns are left
abbrev pub Ends : Call → (F ends : List ℕ) → BuildAnswer → (forests marks : List ℕ) → Type 0
Ends c F ends answer columns marks = (answer ≡ districts_answer c F ends) × (columns ≡ districts_forests c F ends) × (marks ≡ districts_marks c F ends)

-- four answers taken two by two
or_else-pairs : (a b d e : Option Refusal) → or_else a (or_else b (or_else d e)) ≡ or_else (or_else a b) (or_else d e)
unfolding or_else
or_else-pairs none b d e = refl
or_else-pairs (some r) b d e = refl

module _ (c : Call) (F ends : List ℕ) where
  -- the checks one after the other
  pub runs-in-order : or_else (refusal (bad_vertices c.n ∷ too_many_rows (rows_of c) ∷ [])) (or_else (bad_forests (rows_of c) F) (or_else (refusal (table_causes c)) (bad_runs (rows_of c) ends))) ≡ refusal (run_causes c F ends)
  runs-in-order = or_else-pairs _ _ _ _ ∙ checks-in-order c F ends

  -- a refusal leaves both columns
  ends-refused : (r : Refusal) → refusal (district_causes c F ends) ≡ some r → Ends c F ends (unbuilt r) F c.mark
  unfolding districts_answer answer_or districts_forests districts_marks column_or
  ends-refused r e = (rw e, rw e, rw e)

  -- a call that the checks refuse
  pub call-refused : {o : Result ⊤ Refusal} {r : Refusal} → refusal_of o ≡ refusal (run_causes c F ends) → o ≡ Err r → Ends c F ends (unbuilt r) F c.mark
  unfolding refusal_of or_else
  call-refused {r = r} e q =
      let h : refusal (run_causes c F ends) ≡ some r = sym e ∙ ap refusal_of q in
      ends-refused r (causes-in-order c F ends ∙ rw h)

  -- a call that they accept
  module _ {o : Result ⊤ Refusal} (checked : refusal_of o ≡ refusal (run_causes c F ends)) (done : o ≡ Ok tt) where
    no-cause : refusal (run_causes c F ends) ≡ none
    unfolding refusal_of
    no-cause = sym checked ∙ ap refusal_of done

    words : Taken c F ends
    words = (taken-means c F ends).0 no-cause

    t : accepted.Taken c
    t = accepted.taken c (none-applies c F ends no-cause).0

    few : rows_of c ≤ size
    few = t.few-rows

    -- what is known of the graph's forests and their tree
    known : Districts (graph_of c) (weight_of c) ends
    unfolding graph_of
    known = districts-hold (graph_of c) (accepted.sound c t) (weight_of c) ends (words-rise c.m 0 ends words.rising)

    -- no row in use, no row of a forest and no row of the tree stands past m
    past : (S : ℕ → Bool) → ((i : ℕ) → S i ≡ true → (graph_of c).rows i ≡ true) → (i : ℕ) → rows_of c < i → S i ≡ false
    unfolding graph_of
    past S inside i u =
        refuted _ (λ h.
        let (l, p, x) = accepted.used-row c i (inside i h) in
        omega arith)

    forests-past : (i : ℕ) → rows_of c < i → forest_rows c ends i ≡ false
    unfolding forest_rows
    forests-past = past (forests (graph_of c) (weight_of c) ends) known.rows-alone

    tree-past : (i : ℕ) → rows_of c < i → city_rows c ends i ≡ false
    unfolding city_rows city_tree chosen_rows empty forest_rows
    tree-past i u = go (districts (graph_of c) (weight_of c) ends) refl
      where
        go : (x : Option Fragment) → districts (graph_of c) (weight_of c) ends ≡ x → chosen_rows x i ≡ false
        go none e = refl
        go (some f) e = past f.chosen (λ k h. known.rows-alone k (known.from-forests f e k h)) i u

    -- the graph that the tables hold is that of the call, over the positions of a slice
    loaded : loaded_graph c.n c.m c.in_use c.left c.right ≡ over (graph_of c) size
    unfolding graph_of used
    loaded =
        rw (
          loaded-taken 1 c.left (load-taken 1 c.left (omega (arith, t.left-length, few)) (mod-one (length c.left))),
          loaded-taken 1 c.right (load-taken 1 c.right (omega (arith, t.right-length, few)) (mod-one (length c.right))),
        )

    -- of the causes only the last is left
    last-cause : refusal (district_causes c F ends) ≡ no_city c ends
    unfolding or_else
    last-cause = causes-in-order c F ends ∙ rw no-cause

    module _ {rows chosen : ℕ → Bool} {whole : Bool} (g : Divided (loaded_graph c.n c.m c.in_use c.left c.right) (λ i. signed (loaded_row 4 c.weight i)) ends rows whole chosen) where
      grows : Divided (over (graph_of c) size) (weight_of c) ends rows whole chosen
      grows = rw (loaded, loaded-weights c t) at g

      -- the forests' rows
      forest-rows : rows ≡ forest_rows c ends
      unfolding forest_rows graph_of
      forest-rows = grows.all ∙ forests-cut (graph_of c) (weight_of c) size few (past (graph_of c).rows (λ i h. h)) ends

      -- the tree that grew is the tree of the forests
      same-tree : tree (within (over (graph_of c) size) rows) (weight_of c) ≡ city_tree c ends
      unfolding city_tree districts forest_rows graph_of
      same-tree =
          ap (λ (S : ℕ → Bool). tree (within (over (graph_of c) size) S) (weight_of c)) forest-rows
          ∙ tree-cut (within (graph_of c) (forest_rows c ends)) (weight_of c) size few forests-past

      whole-tree : not (is_none (city_tree c ends)) ≡ whole
      whole-tree = rw (← same-tree) (sym grows.tree.all)

      tree-rows : chosen ≡ city_rows c ends
      unfolding city_rows
      tree-rows = rw (← same-tree) grows.tree.rows

      -- where there is no tree
      pub city-refused : whole ≡ false → Ends c F ends (unbuilt (record { number = 11; place = 0 })) F c.mark
      unfolding no_city cause
      city-refused e =
          let q : is_none (city_tree c ends) ≡ true = not-false _ (whole-tree ∙ e) in
          ends-refused _ (last-cause ∙ rw q)

      -- where there is one, both columns are written, and it is weighed
      pub city-built : whole ≡ true → (bits : ℕ) → from_bits 64 bits ≡ total size (λ i. signed (in_row 4 c.weight i)) chosen
          → Ends c F ends (tree_built (from_bits 64 bits)) (claim_of (length F) rows) (claim_of (length c.mark) chosen)
      unfolding districts_answer answer_or districts_forests districts_marks column_or no_city cause weight_of
      city-built e bits h =
          let q : is_none (city_tree c ends) ≡ false = not-true _ (whole-tree ∙ e) in
          let none_left : refusal (district_causes c F ends) ≡ none = last-cause ∙ rw q in (
            rw (none_left, h, tree-rows) (ap tree_built (total-cut size (rows_of c) (weight_of c) (city_rows c ends) few tree-past)),
            rw (none_left, words.bytes, forest-rows),
            rw (none_left, t.mark-length, tree-rows),
          )
