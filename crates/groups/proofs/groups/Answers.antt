-- `groups::groups` meets its contract in both cases: the call is refused, or both columns are written.
-- Assumes nothing.
use native.Mathlib.Omega.{arith}
use Rattle.groups.proofs.Answers.{small_count, call-refused, small, few, groups-told}
use Rattle.refusal.proofs.Passed.{handed-on}
use Rattle.groups.specs.Answers.{answer_of}
use Rattle.groups.proofs.groups.Goals as goal

pub returns-in_err-call_check : goal.returns-in_err-call_check
unfolding answer_of
returns-in_err-call_check c = rw (handed-on _ c.from_residual.ensures.1) (call-refused _ _ _ c.call_check.ensures c.in_err-call_check.was)

pub find-found-requires : goal.find-found-requires
find-found-requires c = small _ _ _ c.call_check.ensures c.in_ok-call_check.was

pub count_own-requires : goal.count_own-requires
count_own-requires c = few _ _ _ c.call_check.ensures c.in_ok-call_check.was

pub overflow_cast-result : goal.overflow_cast-result
overflow_cast-result c = let h = small_count _ _ c.count_rows.ensures in omega (arith, h)

pub returns : goal.returns
unfolding answer_of
returns c =
    groups-told _ _ _ c.call_check.ensures c.in_ok-call_check.was
    c.claim_rows-marked.ensures c.rows_among.ensures c.find-found.ensures.labels c.find-found.ensures.rings c.count_own.ensures c.count_rows.ensures c.write_claim.ensures
