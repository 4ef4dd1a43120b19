-- `table_checks::refused_if` meets its contract, in each of its cases. Assumes nothing.
use Rattle.refusal.specs.Outcomes.{refusal_of}
use Rattle.star_spec.specs.Refusals.{cause}
use Rattle.table_checks.proofs.refused_if.Goals as goal

pub returns-then-test : goal.returns-then-test
unfolding refusal_of cause
returns-then-test c = rw (c.if-test.true, c.of.ensures)

pub returns : goal.returns
unfolding refusal_of cause
returns c = rw c.if-test.false
