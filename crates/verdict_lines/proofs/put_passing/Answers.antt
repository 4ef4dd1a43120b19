-- `verdict_lines::put_passing` meets its contract: what is told of each of its cases. Assumes nothing.
use Rattle.cst.specs.Verdicts.{verdict_of}
use Rattle.verdict_lines.proofs.put_passing.Goals as goal

pub returns-in-Passed : goal.returns-in-Passed
unfolding verdict_of
returns-in-Passed c = rw c.in-Passed.is c.put_passed.ensures

pub returns-in-Lighter : goal.returns-in-Lighter
unfolding verdict_of
returns-in-Lighter c = rw c.in-Lighter.is c.put_cheaper.ensures
