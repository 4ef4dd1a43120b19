-- `path::path_check` meets its contract: the check of the table and the claim refuses, or the other checks decide in their order.
-- Assumes nothing.
use Rattle.table_checks.proofs.Laws.{refused-on, done_next}
use Rattle.path.proofs.Causes.{checks-in-order}
use Rattle.star_spec.specs.Refusals.{bad_source, short_matrix}
use Rattle.path.proofs.path_check.Goals as goal

pub returns-in_err-claim_check : goal.returns-in_err-claim_check
returns-in_err-claim_check c = rw checks-in-order (refused-on _ _ c.in_err-claim_check.was c.from_residual.ensures.1 c.claim_check.ensures)

pub returns-in_err-call_check : goal.returns-in_err-call_check
unfolding bad_source short_matrix
returns-in_err-call_check c =
    rw checks-in-order
    (done_next _ _ _ _ c.in_ok-claim_check.was c.claim_check.ensures
    (refused-on _ _ c.in_err-call_check.was c.from_residual-in_err-call_check.ensures.1 c.call_check.ensures))

pub returns : goal.returns
unfolding bad_source short_matrix
returns c =
    rw checks-in-order
    (done_next _ _ _ _ c.in_ok-claim_check.was c.claim_check.ensures
    (done_next _ _ _ _ c.in_ok-call_check.was c.call_check.ensures (c.count_check.ensures _ _ _ _)))
