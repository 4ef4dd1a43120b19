-- What is listed of a plan, by what the checks refuse and by the rows that its bytes mark.
-- Assumes nothing.
use Prim.Native.Nat.{ℕ, ◌<◌}
use lib.ListN.{length}
use mathlib.Core.Bool.{Bool, false}
use mathlib.Core.List.{List, ◌++◌}
use mathlib.Core.Option.{none, some}
use mathlib.Core.Path.{◌≡◌, refl, sym, ap, ◌∙◌}
use native.Mathlib.Omega.{arith}
use Rattle.claim.proofs.Laws.{claim_rows-marked}
use Rattle.claim.specs.Claims.{claim_rows}
use Rattle.decimal.specs.Puts.{Puts}
use Rattle.digs_lines.proofs.Laws.{prints}
use Rattle.digs_lines.specs.Prints.{Prints}
use Rattle.digs_spec.proofs.Meaning.{dig-list-holds}
use Rattle.digs_spec.specs.DigList.{row_line, row_lines, total_line, dig_list, unlisted, listing}
use Rattle.plan_digs_spec.proofs.Refused.{unrefused-table, unrefused-tree}
use Rattle.plan_digs_spec.specs.PlanList.{plan_list_or, plan_list}
use Rattle.refusal.specs.Outcomes.{refusal_of}
use Rattle.refusal.specs.declared.Refusal.{Refusal}
use Rattle.rowset.proofs.Integers.{total-cut}
use Rattle.rowset.proofs.Laws.{refuted}
use Rattle.rowset.proofs.Members.{both-in}
use Rattle.rowset.specs.Bytes.{in_row}
use Rattle.rowset.specs.Integers.{signed, total}
use Rattle.rowset.specs.Sets.{up_to, both}
use Rattle.slice.specs.Slices.{size}
use Rattle.star_spec.proofs.Accepted.{Taken, taken, used-row}
use Rattle.star_spec.specs.Call.{Call, rows_of, used, weight_of, marked, claimed, claim_weight}
use Rattle.std.specs.Prelude.{Result, Ok, Err, ⊤}
use Rattle.star_spec.specs.Refusals.{cst_causes, refusal}

module _ (c : Call) {o : Result ⊤ Refusal} (checked : refusal_of o ≡ refusal (cst_causes c)) where
  -- a plan that is refused
  pub plan-refused : {r : Refusal} → o ≡ Err r → plan_list c ≡ unlisted r
  unfolding plan_list plan_list_or refusal_of
  plan-refused h = ap (plan_list_or c) (sym checked ∙ ap refusal_of h)

  -- a plan that is not
  module _ (done : o ≡ Ok tt) where
    unrefused : refusal (cst_causes c) ≡ none
    unfolding refusal_of
    unrefused = sym checked ∙ ap refusal_of done

    t : Taken c
    t = taken c (unrefused-table c unrefused)

    -- its rows are those that are read of its bytes
    marked-rows : both (both (up_to c.m) c.in_use) (claim_rows c.mark) ≡ claimed c
    unfolding claimed used
    marked-rows = rw (claim_rows-marked c.mark (rw t.mark-length t.few-rows)) refl

    above : (i : ℕ) → rows_of c < i → claimed c i ≡ false
    unfolding claimed
    above i u =
        refuted _ (λ h.
        let (l, p, x) = used-row c i (both-in (used c) (marked c.mark) i h).0 in
        omega arith)

    claim-weight : total size (λ i. signed (in_row 4 c.weight i)) (claimed c) ≡ claim_weight c
    unfolding claim_weight weight_of
    claim-weight = total-cut size (rows_of c) (weight_of c) (claimed c) t.few-rows above

    -- their list is the plan's
    pub plan-listed : {among rows : ℕ → Bool} {out after : List ℕ} {k : ℕ} → among ≡ both (up_to c.m) c.in_use → rows ≡ both among (claim_rows c.mark)
        → Puts out 0 (row_lines (row_line c.left c.right c.weight) c.m rows ++ total_line (total size (λ i. signed (in_row 4 c.weight i)) rows)) after k
        → (text : List ℕ) × (plan_list c ≡ listing text) × Prints out after k text
    unfolding plan_list plan_list_or dig_list
    plan-listed u e p =
        let says = (dig-list-holds c (unrefused-table c unrefused)).every-tree (unrefused-tree c unrefused) in
        (dig_list c, ap (plan_list_or c) unrefused, prints says.short (rw (e, u, marked-rows, claim-weight) at p))
