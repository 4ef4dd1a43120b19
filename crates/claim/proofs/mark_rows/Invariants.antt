-- `claim::mark_rows` meets its contract. The loop's invariant: the words before k are those of the marked rows, and the others are 0.
-- Assumes nothing.
use Rattle.std.proofs.Common.{◌-◌, ◌*◌, length}
use Rattle.claim.proofs.Laws.{Marks}
use Rattle.claim.proofs.mark_rows.Given as goal

abbrev pub invariant-loop-k : goal.invariant-loop-k
invariant-loop-k l = Marks l.mark l.r.words l.k
