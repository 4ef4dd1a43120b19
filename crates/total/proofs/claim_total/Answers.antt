-- `total::claim_total` meets its contract in both of its cases: the call is refused, or the marked rows are added up. Assumes nothing.
use Rattle.refusal.proofs.Passed.{handed-on}
use Rattle.total.proofs.Laws.{total-refused, total-summed}
use Rattle.total.specs.Answers.{answer_of}
use Rattle.total.proofs.claim_total.Goals as goal

pub returns-in_err-claim_check : goal.returns-in_err-claim_check
unfolding answer_of
returns-in_err-claim_check c = rw (handed-on _ c.from_residual.ensures.1) (total-refused _ c.claim_check.ensures c.in_err-claim_check.was)

pub returns : goal.returns
unfolding answer_of
returns c =
    total-summed _ c.claim_check.ensures c.in_ok-claim_check.was c.rows_among.ensures c.claim_rows-rows.ensures c.weigh.ensures
