-- The answer in each of its cases: a table or a vertex that is refused (table-refused), no tree (tree-refused), none with exactly t rows at r (exchanges-refused), and a tree (exchanges-built).
-- Assumes nothing.
use Prim.Native.Nat.{ℕ, ◌<◌}
use lib.ListN.{length}
use mathlib.Core.Bool.{Bool, true, false}
use mathlib.Core.List.{List}
use mathlib.Core.Option.{none, some}
use mathlib.Core.Path.{◌≡◌, sym, ◌∙◌, ap}
use native.Mathlib.Omega.{arith}
use Rattle.std.specs.Prelude.{Result, Ok, Err, ⊤}
use Rattle.outlets_spec.proofs.Causes.{causes-in-order, vertex-asked}
use Rattle.outlets_spec.specs.Outlets.{tree_at, is_missing, rows_in, no_tree_with, vertex_asked, outlet_causes, outlets_or, outlets, marks_or, outlet_marks}
use Rattle.outlets_theory.proofs.Promise.{degrees}
use Rattle.graph_theory.specs.Builder.{tree}
use Rattle.refusal.specs.Outcomes.{refusal_of}
use Rattle.refusal.specs.declared.Refusal.{Refusal}
use Rattle.rowset.proofs.Integers.{total-cut}
use Rattle.rowset.proofs.Laws.{refuted}
use Rattle.rowset.specs.Bytes.{in_row}
use Rattle.rowset.specs.Integers.{from_bits, signed, total}
use Rattle.slice.specs.Slices.{size}
use Rattle.star_spec.proofs.Accepted.{taken, used-row, sound}
use Rattle.star_spec.specs.Accepted.{Vertex}
use Rattle.star_spec.specs.Call.{Call, rows_of, graph_of, weight_of, claim_of}
use Rattle.star_spec.specs.Mst1.{BuildAnswer, unbuilt, tree_built}
use Rattle.star_spec.specs.Refusals.{cause, is_none, no_tree, or_else, refusal, Accepted}

-- this answer, and these marks
abbrev pub Answers : Call → (r n : ℕ) → BuildAnswer → List ℕ → Type 0
Answers c r n answer marks = (answer ≡ outlets c r n) × (marks ≡ outlet_marks c r n)

module _ (c : Call) (r n : ℕ) where
  refused-by : (x : Refusal) → refusal (outlet_causes c r n) ≡ some x → Answers c r n (unbuilt x) c.mark
  unfolding outlets outlets_or outlet_marks marks_or
  refused-by x e = (rw e, rw e)

  pub table-refused : {o : Result ⊤ Refusal} {x : Refusal} → refusal_of o ≡ refusal (vertex_asked c r) → o ≡ Err x → Answers c r n (unbuilt x) c.mark
  unfolding refusal_of or_else
  table-refused {x = x} e q = refused-by x (causes-in-order c r n ∙ rw (sym e ∙ ap refusal_of q))

  module _ {o : Result ⊤ Refusal} (checked : refusal_of o ≡ refusal (vertex_asked c r)) (done : o ≡ Ok tt) where
    none_yet : refusal (vertex_asked c r) ≡ none
    unfolding refusal_of
    none_yet = sym checked ∙ ap refusal_of done

    pub accepted : Accepted c × Vertex c.n r
    accepted = vertex-asked c r none_yet

    last : refusal (outlet_causes c r n) ≡ or_else (no_tree c) (no_tree_with c r n)
    unfolding or_else
    last = causes-in-order c r n ∙ rw none_yet

    pub tree-refused : is_none (tree (graph_of c) (weight_of c)) ≡ true → Answers c r n (unbuilt (record { number = 11; place = 0 })) c.mark
    unfolding no_tree cause or_else
    tree-refused e = refused-by _ (last ∙ rw e)

    pub exchanges-refused : is_none (tree (graph_of c) (weight_of c)) ≡ false → tree_at c r n ≡ none → Answers c r n (unbuilt (record { number = 19; place = 0 })) c.mark
    unfolding no_tree no_tree_with is_missing cause or_else
    exchanges-refused e q = refused-by _ (last ∙ rw (e, q))

    pub exchanges-built : is_none (tree (graph_of c) (weight_of c)) ≡ false → (T : ℕ → Bool) → tree_at c r n ≡ some T → (bits : ℕ) → from_bits 64 bits ≡ total size (λ i. signed (in_row 4 c.weight i)) T → Answers c r n (tree_built (from_bits 64 bits)) (claim_of (length c.mark) T)
    unfolding outlets outlets_or outlet_marks marks_or no_tree no_tree_with is_missing rows_in cause or_else weight_of tree_at graph_of
    exchanges-built e T q bits h =
        let (ok, v) = accepted in
        let tk = taken c ok in
        let causes : refusal (outlet_causes c r n) ≡ none = last ∙ rw (e, q) in
        let rows : rows_in (tree_at c r n) ≡ T = ap rows_in q in (
          rw causes (ap tree_built (h ∙ total-cut size (rows_of c) (weight_of c) T tk.few-rows (past ok q) ∙ ap (total (rows_of c) (weight_of c)) (sym rows))),
          rw causes (rw tk.mark-length (ap (claim_of (rows_of c)) (sym rows))),
        )
      where
        past : Accepted c → tree_at c r n ≡ some T → (i : ℕ) → rows_of c < i → T i ≡ false
        past ok q i u = refuted _ (λ h. let (l, x, y) = used-row c i (((degrees (graph_of c) (sound c (taken c ok)) (weight_of c) r n).built T q).tree.inside i h) in omega arith)
