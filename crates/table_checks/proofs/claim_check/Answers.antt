-- `table_checks::claim_check` meets its contract: the table is refused, or the claim decides. The place fits 32 bits since an accepted table has at most 1,024 rows.
-- Assumes nothing.
use Prim.Native.Nat.{◌≤◌}
use mathlib.Core.Path.{sym, ap, ◌∙◌}
use native.Mathlib.Omega.{arith}
use Rattle.refusal.specs.Outcomes.{refusal_of}
use Rattle.slice.specs.Slices.{component}
use Rattle.star_spec.specs.Call.{used}
use Rattle.star_spec.specs.Refusals.{max_rows, cause_at, wrong_byte, bad_claim}
use Rattle.star_spec.proofs.Accepted.{taken}
use Rattle.table_checks.proofs.Laws.{uppermost-bound, refused-on, done_next, claim-in-order, bytes-within}
use Rattle.table_checks.proofs.claim_check.Goals as goal
use Rattle.table_checks.proofs.claim_check.Goals.{In_ok-table_check}

-- the table was taken
few : (c : In_ok-table_check) → c.args.m ≤ max_rows
unfolding refusal_of
few c =
    (taken _ (sym c.table_check.ensures ∙ ap refusal_of c.in_ok-table_check.was)).few-rows

pub returns-in_err-table_check : goal.returns-in_err-table_check
returns-in_err-table_check c = refused-on _ _ c.in_err-table_check.was c.from_residual.ensures.1 c.table_check.ensures ∙ sym (claim-in-order _)

pub first_bad_mark-requires : goal.first_bad_mark-requires
first_bad_mark-requires c = few (goal.at.first_bad_mark-requires c).In_ok-table_check

pub overflow_cast-first_bad_mark : goal.overflow_cast-first_bad_mark
overflow_cast-first_bad_mark c =
    let x = c.args in
    omega (arith, few (goal.at.overflow_cast-first_bad_mark c).In_ok-table_check, uppermost-bound _ _ (wrong_byte (component x.rows) x.mark.now) c.first_bad_mark.ensures)

pub returns : goal.returns
unfolding bad_claim used
returns c =
    done_next _ _ _ _ c.in_ok-table_check.was c.table_check.ensures
    (c.refused_at.ensures ∙ ap (cause_at 6) (c.first_bad_mark.ensures ∙ bytes-within _ _ _))
    ∙ sym (claim-in-order _)
