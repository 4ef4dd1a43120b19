-- MST1's answer and marks in each of its three cases: the table is refused, there is no tree, or a tree is built.
-- Assumes nothing.
use Prim.Native.Nat.{ℕ, ◌≤◌, ◌<◌}
use mathlib.Core.Bool.{Bool, true, false, not}
use mathlib.Core.List.{List, [], ◌∷◌, ◌++◌}
use mathlib.Core.Option.{Option, none, some}
use mathlib.Core.Path.{◌≡◌, refl, sym, ◌∙◌, ap}
use borrow.Author.Tests.{not-true, not-false}
use lib.IntN.{ℤ}
use lib.ListN.{length}
use native.Mathlib.Nat.{mod-one, mul-mod_right}
use native.Mathlib.Omega.{arith}
use Rattle.graph_theory.specs.Builder.{Fragment, tree}
use Rattle.graph_theory.specs.Graph.{Graph}
use Rattle.graph_theory.proofs.Builder.{built-spanning}
use Rattle.std.specs.Prelude.{Result, Ok, Err, ⊤}
use Rattle.std.specs.Result.{IsErrAnd}
use Rattle.refusal.specs.Outcomes.{refusal_of}
use Rattle.refusal.proofs.Passed.{handed-on}
use Rattle.refusal.specs.declared.Refusal.{Refusal}
use Rattle.rowset.specs.Bytes.{in_row}
use Rattle.rowset.specs.Integers.{from_bits, signed, total}
use Rattle.rowset.specs.Sets.{empty, up_to, both}
use Rattle.rowset.proofs.Integers.{total-cut}
use Rattle.rowset.proofs.Laws.{refuted, up_to-in}
use Rattle.rowset.proofs.Members.{both-in}
use Rattle.slice.specs.Slices.{size}
use Rattle.star_spec.specs.Call.{Call, rows_of, used, graph_of, weight_of, claim_of}
use Rattle.star_spec.specs.Mst1.{BuildAnswer, unbuilt, tree_built, chosen_rows, tree_rows, built, built_marks, mst1, mst1_marks}
use Rattle.star_spec.specs.Refusals.{cause, is_none, no_tree, table_causes, mst1_causes, refusal, or_else, Accepted}
use Rattle.star_spec.proofs.Accepted.{refusal-append, Taken, taken, used-row, sound}
use Rattle.table.specs.Loads.{loaded_row}
use Rattle.table.proofs.Loads.{load-taken, loaded-taken}
use Rattle.mst1.specs.Steps.Growth.{loaded_graph, Grows}
use Rattle.mst1.proofs.Cut.{tree-cut}

-- causes of which one applies are not changed by causes after them
refusal-first : (xs ys : List (Option Refusal)) (r : Refusal) → refusal xs ≡ some r → refusal (xs ++ ys) ≡ some r
unfolding refusal or_else
refusal-first [] ys r e = cc
refusal-first (none ∷ xs) ys r e = refusal-first xs ys r e
refusal-first (some q ∷ xs) ys r e = e

-- the ends that a call hands in, over a set of rows
abbrev pub ends_of : Call → (ℕ → Bool) → Graph
ends_of c rows = record { n = c.n; m = rows_of c; a = in_row 1 c.left; b = in_row 1 c.right; rows = rows }

-- Of a table that is taken:
module _ (c : Call) (t : Taken c) where
  few : rows_of c ≤ size
  few = t.few-rows

  -- the loaded weights are its weights
  pub loaded-weights : (λ i. signed (loaded_row 4 c.weight i)) ≡ weight_of c
  unfolding weight_of
  loaded-weights =
      rw (loaded-taken 4 c.weight (load-taken 4 c.weight (omega (arith, t.weight-length)) (rw t.weight-length (mul-mod_right 4 (rows_of c)))))

  -- the tree that grows over a set of rows on the loaded ends, by any weights, is that of the rows among the first m on the ends handed in
  pub loaded-graph : (rows : ℕ → Bool) (w : ℕ → ℤ) → tree (loaded_graph c.n c.m rows c.left c.right) w ≡ tree (ends_of c (both (up_to c.m) rows)) w
  loaded-graph rows w =
      rw (
        loaded-taken 1 c.left (load-taken 1 c.left (omega (arith, t.left-length)) (mod-one (length c.left))),
        loaded-taken 1 c.right (load-taken 1 c.right (omega (arith, t.right-length)) (mod-one (length c.right))),
      )
      (tree-cut (ends_of c (both (up_to c.m) rows)) w size few (λ i u. refuted _ (past i u)))
    where
      past : (i : ℕ) → rows_of c < i → both (up_to c.m) rows i ≡ true → ⊥
      past i u h =
          let (l, p) = up_to-in c.m i (both-in (up_to c.m) rows i h).0 in
          omega arith

  -- the rows that are chosen by any weights are among the first m
  pub tree-inside : (w : ℕ → ℤ) (i : ℕ) → rows_of c < i → chosen_rows (tree (graph_of c) w) i ≡ false
  unfolding chosen_rows graph_of empty
  tree-inside w i u = go (tree (graph_of c) w) refl
    where
      go : (o : Option Fragment) → tree (graph_of c) w ≡ o → chosen_rows o i ≡ false
      go none e = refl
      go (some f) e =
          refuted _ (λ h.
          let (l, p, x) = used-row c i ((built-spanning (graph_of c) (sound c t) w f e).inside i h) in
          omega arith)

-- MST1 gives this answer and leaves these marks
abbrev pub Ends : Call → BuildAnswer → List ℕ → Type 0
Ends c answer marks = (answer ≡ mst1 c) × (marks ≡ mst1_marks c)

module _ (c : Call) where
  -- a refusal leaves the marks
  ends-refused : (r : Refusal) → refusal (mst1_causes c) ≡ some r → Ends c (unbuilt r) c.mark
  unfolding mst1 mst1_marks built built_marks
  ends-refused r e = (rw e, rw e)

  -- a table that the checks refuse
  pub table-refused : {o : Result ⊤ Refusal} {r : Refusal} → refusal_of o ≡ refusal (table_causes c) → o ≡ Err r → Ends c (unbuilt r) c.mark
  unfolding mst1_causes refusal_of
  table-refused {r = r} e q = ends-refused r (refusal-first (table_causes c) (no_tree c ∷ []) r (sym e ∙ ap refusal_of q))

  -- a table that the checks accept
  module _ {o : Result ⊤ Refusal} (checked : refusal_of o ≡ refusal (table_causes c)) (done : o ≡ Ok tt) where
    accepted : Accepted c
    unfolding refusal_of
    accepted = sym checked ∙ ap refusal_of done

    loaded-tree : tree (loaded_graph c.n c.m c.in_use c.left c.right) (λ i. signed (loaded_row 4 c.weight i)) ≡ tree (graph_of c) (weight_of c)
    unfolding graph_of weight_of used
    loaded-tree = rw (loaded-weights c (taken c accepted)) (loaded-graph c (taken c accepted) c.in_use (weight_of c))

    -- of the causes only the last is left
    last-cause : (b : Bool) → is_none (tree (graph_of c) (weight_of c)) ≡ b → refusal (mst1_causes c) ≡ cause b 11 0
    unfolding mst1_causes refusal or_else no_tree cause
    last-cause true e = refusal-append (table_causes c) (no_tree c ∷ []) accepted ∙ rw e
    last-cause false e = refusal-append (table_causes c) (no_tree c ∷ []) accepted ∙ rw e

    module _ {whole : Bool} {chosen : ℕ → Bool} (g : Grows (loaded_graph c.n c.m c.in_use c.left c.right) (λ i. signed (loaded_row 4 c.weight i)) whole chosen) where
      -- whether a tree was grown says whether there is one
      whole-tree : not (is_none (tree (graph_of c) (weight_of c))) ≡ whole
      whole-tree = rw (← loaded-tree) (sym g.all)

      -- the rows that were chosen are its rows
      chosen-tree : chosen ≡ tree_rows c
      unfolding tree_rows
      chosen-tree = rw (← loaded-tree) g.rows

      -- where there is no tree
      pub tree-refused : whole ≡ false → Ends c (unbuilt (record { number = 11; place = 0 })) c.mark
      unfolding cause
      tree-refused e = ends-refused _ (last-cause true (not-false _ (whole-tree ∙ e)))

      -- where there is one, it is marked and weighed
      pub tree-built : whole ≡ true → (bits : ℕ) → from_bits 64 bits ≡ total size (λ i. signed (in_row 4 c.weight i)) chosen → Ends c (tree_built (from_bits 64 bits)) (claim_of (length c.mark) chosen)
      unfolding mst1 mst1_marks built built_marks cause weight_of tree_rows
      tree-built e bits h =
          let t = taken c accepted in
          let none_left = last-cause false (not-true _ (whole-tree ∙ e)) in (
            rw (none_left, h, chosen-tree) (ap tree_built (total-cut size (rows_of c) (weight_of c) (tree_rows c) t.few-rows (tree-inside c t (weight_of c)))),
            rw (none_left, t.mark-length, chosen-tree),
          )
