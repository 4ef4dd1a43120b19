-- `claim::weigh` meets its contract. The loop's invariant: the rows of the words before k are added. Assumes nothing.
use Rattle.std.proofs.Common.{◌-◌, ◌*◌, ◌≤◌}
use Rattle.slice.specs.Slices.{component}
use Rattle.claim.specs.Steps.Added.{Added}
use Rattle.claim.proofs.weigh.Given as goal

abbrev pub invariant-loop-k : goal.invariant-loop-k
invariant-loop-k l = (l.k ≤ 16) × Added l.weight (component l.rows) (64 * l.k) l.sums.above l.sums.taken
