-- The best exchange: of all exchanges of one marked for one unmarked row of a claim that is a spanning tree the one that saves most, the uppermost row in among equals, and for it the uppermost row out; beside it the least total.
-- Assumes nothing.
use Rattle.std.specs.Prelude.{ℕ, zero, suc, ℤ, nat_abs}
use Rattle.std.proofs.Math.Option.{Option, none, some}
use Rattle.detour_theory.specs.Detours.{dearest, saving, best_in}
use Rattle.graph_theory.specs.Builder.{tree}
use Rattle.refusal.specs.declared.Refusal.{Refusal}
use Rattle.rowset.specs.Integers.{total}
use Rattle.star_spec.specs.Call.{Call, rows_of, graph_of, weight_of, claimed, claim_weight}
use Rattle.star_spec.specs.Mst1.{chosen_rows}
use Rattle.star_spec.specs.Refusals.{cst_causes, refusal}

-- what is answered: the refusal; that no exchange saves, with the claim's weight; or the rows out and in of the exchange that saves most, and what it saves; with each of the two the least total
pub data BestAnswer : Type 0 where
  unfound : Refusal → BestAnswer
  stays : (weight least : ℤ) → BestAnswer
  saves : (out into saved : ℕ) (least : ℤ) → BestAnswer

-- the row that comes in, 0 where none saves, and what the row out for a row in is
unfoldable pub row_into : Call → ℕ
row_into c = best_in (graph_of c) (weight_of c) (claimed c)

unfoldable pub row_for : Call → ℕ → ℕ
row_for c i = dearest (graph_of c) (weight_of c) (claimed c) i

-- the least total: what the tree weighs that MST1 builds
unfoldable pub least_total_of : Call → ℤ
least_total_of c = total (rows_of c) (weight_of c) (chosen_rows (tree (graph_of c) (weight_of c)))

unfoldable pub best_with : Call → ℕ → BestAnswer
best_with c zero = stays (claim_weight c) (least_total_of c)
best_with c (suc i) = saves (row_for c (suc i)) (suc i) (nat_abs (saving (graph_of c) (weight_of c) (claimed c) (suc i))) (least_total_of c)

unfoldable pub best_or : Call → Option Refusal → BestAnswer
best_or c (some r) = unfound r
best_or c none = best_with c (row_into c)

unfoldable pub best : Call → BestAnswer
best c = best_or c (refusal (cst_causes c))
