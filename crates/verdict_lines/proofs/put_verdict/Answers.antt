-- `verdict_lines::put_verdict` meets its contract: what is told of a claim, and of a refusal. Assumes nothing.
use Rattle.cst.specs.Verdicts.{answer_of}
use Rattle.verdict_lines.proofs.put_verdict.Goals as goal

pub returns-in-Ok : goal.returns-in-Ok
unfolding answer_of
returns-in-Ok c = rw c.in-Ok.is c.put_passing.ensures

pub returns-in-Err : goal.returns-in-Err
unfolding answer_of
returns-in-Err c = rw c.in-Err.is c.put_refused.ensures
