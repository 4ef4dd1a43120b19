-- The quote's answer in each of its three cases: the call is refused, there is no tree, or both trees are built and weighed.
-- Assumes nothing.
use Prim.Native.Nat.{ℕ, ◌≤◌}
use borrow.Author.Tests.{not-true, not-false}
use lib.Dec.{eqb}
use lib.IntN.{ℤ}
use lib.ListN.{length}
use mathlib.Core.Bool.{Bool, true, false, not, cond}
use mathlib.Core.List.{List}
use mathlib.Core.Option.{none, some}
use mathlib.Core.Path.{◌≡◌, refl, sym, ◌∙◌, ap, fun_ext}
use native.Mathlib.Omega.{arith}
use Rattle.graph_theory.specs.Builder.{tree}
use Rattle.mst1.proofs.Answers.{loaded-weights, loaded-graph, tree-inside}
use Rattle.mst1.specs.Steps.Growth.{loaded_graph, Grows}
use Rattle.price_theory.specs.Quote.{priced}
use Rattle.refusal.specs.Outcomes.{refusal_of}
use Rattle.refusal.specs.declared.Refusal.{Refusal}
use Rattle.rowset.proofs.Integers.{total-cut}
use Rattle.rowset.specs.Bytes.{in_row}
use Rattle.rowset.specs.Integers.{from_bits, signed, total}
use Rattle.slice.specs.Slices.{size}
use Rattle.star_spec.proofs.Accepted.{Taken, taken}
use Rattle.star_spec.specs.Accepted.{Row}
use Rattle.star_spec.specs.Call.{Call, rows_of, used, graph_of, weight_of}
use Rattle.star_spec.specs.Mst1.{chosen_rows}
use Rattle.star_spec.specs.Refusals.{Accepted, cause, is_none, no_tree, or_else, refusal}
use Rattle.std.specs.Prelude.{Result, Ok, Err, ⊤}
use Rattle.table.proofs.Loads.{load-taken, loaded-taken}
use Rattle.table.specs.Loads.{loaded_row}
use Rattle.price_spec.proofs.Causes.{causes-in-order, row-asked}
use Rattle.price_spec.specs.Quote.{row_asked, quote_causes, built_total, new_prices, unquoted, quoted, quote_or, quote}

-- a call that the checks accept: the table is accepted and the row in use, so that its bytes and the row fit a column of 1,024 prices
module _ (c : Call) (k : ℕ) {o : Result ⊤ Refusal} (checked : refusal_of o ≡ refusal (row_asked c k)) (done : o ≡ Ok tt) where
  accepted : Accepted c × Row c k
  unfolding refusal_of
  accepted = row-asked c k (sym checked ∙ ap refusal_of done)

  pub fits : (length c.weight ≤ 4096) × (1 ≤ k) × (k ≤ 1024)
  fits =
      let t = taken c accepted.0 in
      let (l, u, _) = accepted.1 in
      (omega (arith, t.weight-length, t.few-rows), l, omega (arith, t.few-rows))

module _ (c : Call) (k x : ℕ) where
  -- a call that the checks refuse
  pub call-refused : {o : Result ⊤ Refusal} {r : Refusal} → refusal_of o ≡ refusal (row_asked c k) → o ≡ Err r → unquoted r ≡ quote c k x
  unfolding quote quote_or refusal_of or_else
  call-refused {r = r} e q =
      let h : refusal (row_asked c k) ≡ some r = sym e ∙ ap refusal_of q in
      rw (causes-in-order c k, h)

  -- a call that they accept
  module _ {o : Result ⊤ Refusal} (checked : refusal_of o ≡ refusal (row_asked c k)) (done : o ≡ Ok tt) where
    t : Taken c
    t = taken c (accepted c k checked done).0

    -- only the last cause is left
    last-cause : refusal (quote_causes c k) ≡ no_tree c
    unfolding or_else refusal_of
    last-cause =
        let h : refusal (row_asked c k) ≡ none = sym checked ∙ ap refusal_of done in
        rw (causes-in-order c k, h)

    -- the tree that grows on the loaded ends, by any weights, is that of the table
    grown-tree : (w : ℕ → ℤ) → tree (loaded_graph c.n c.m c.in_use c.left c.right) w ≡ tree (graph_of c) w
    unfolding graph_of used
    grown-tree w = loaded-graph c t c.in_use w

    -- what is weighed of it is the total of the tree that is built
    weighed : (w : ℕ → ℤ) {whole : Bool} {chosen : ℕ → Bool} → Grows (loaded_graph c.n c.m c.in_use c.left c.right) w whole chosen → total size w chosen ≡ built_total c w
    unfolding built_total
    weighed w g = rw (g.rows, grown-tree w) (total-cut size (rows_of c) w (chosen_rows (tree (graph_of c) w)) t.few-rows (tree-inside c t w))

    -- the weights of the column with the price replaced are the new prices
    new-weights : (new : List ℕ) → ((i : ℕ) → in_row 4 new i ≡ cond (eqb i k) x (in_row 4 c.weight i)) → (λ i. signed (in_row 4 new i)) ≡ new_prices c k x
    unfolding new_prices priced weight_of
    new-weights new h = fun_ext (λ i. ap signed (h i) ∙ go (eqb i k) (in_row 4 c.weight i))
      where
        go : (b : Bool) (y : ℕ) → signed (cond b x y) ≡ cond b (signed x) (signed y)
        go true y = refl
        go false y = refl

    module _ {whole : Bool} {chosen : ℕ → Bool} (g : Grows (loaded_graph c.n c.m c.in_use c.left c.right) (λ i. signed (loaded_row 4 c.weight i)) whole chosen) where
      grows : Grows (loaded_graph c.n c.m c.in_use c.left c.right) (weight_of c) whole chosen
      grows = rw (loaded-weights c t) at g

      -- whether a tree was grown says whether there is one
      whole-tree : not (is_none (tree (graph_of c) (weight_of c))) ≡ whole
      whole-tree = rw (← grown-tree (weight_of c)) (sym grows.all)

      -- where there is no tree
      pub no-tree : whole ≡ false → unquoted (record { number = 11; place = 0 }) ≡ quote c k x
      unfolding quote quote_or no_tree cause
      no-tree e =
          let q : is_none (tree (graph_of c) (weight_of c)) ≡ true = not-false _ (whole-tree ∙ e) in
          rw (last-cause, q)

      -- where there is one, both are built and weighed
      pub both-built : whole ≡ true → (new : List ℕ) → length new ≡ 4096 → ((i : ℕ) → in_row 4 new i ≡ cond (eqb i k) x (in_row 4 c.weight i))
          → {whole' : Bool} {chosen' : ℕ → Bool} → Grows (loaded_graph c.n c.m c.in_use c.left c.right) (λ i. signed (loaded_row 4 new i)) whole' chosen'
          → (before after : ℕ) → from_bits 64 before ≡ total size (λ i. signed (in_row 4 c.weight i)) chosen → from_bits 64 after ≡ total size (λ i. signed (in_row 4 new i)) chosen'
          → quoted (from_bits 64 before) (from_bits 64 after) ≡ quote c k x
      unfolding quote quote_or no_tree cause weight_of
      both-built e new sized h {whole' = whole'} {chosen' = chosen'} g' before after b a =
          let n = new-weights new h in
          let l : (λ i. signed (loaded_row 4 new i)) ≡ new_prices c k x = rw (loaded-taken 4 new (load-taken 4 new (omega (arith, sized)) (rw sized refl))) n in
          let g'' : Grows (loaded_graph c.n c.m c.in_use c.left c.right) (new_prices c k x) whole' chosen' = rw l at g' in
          let q : is_none (tree (graph_of c) (weight_of c)) ≡ false = not-true _ (whole-tree ∙ e) in
          rw (last-cause, q, b, a, n, ← weighed (weight_of c) grows, ← weighed (new_prices c k x) g'') refl
