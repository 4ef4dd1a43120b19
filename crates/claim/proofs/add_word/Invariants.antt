-- `claim::add_word` meets its contract. The loop's invariant: the rows of the word up to position `at` are added, and `left` has the others. The measure is `left`.
-- Assumes nothing.
use Rattle.std.proofs.Common.{◌*◌}
use Rattle.claim.proofs.Words.{Adding}
use Rattle.claim.proofs.add_word.Given as goal

abbrev pub invariant-loop-left : goal.invariant-loop-left
invariant-loop-left l = Adding l.weight (64 * l.k) l.w l.initial.above l.initial.taken l.above l.taken l.at l.left

abbrev pub decreases-loop-left : goal.decreases-loop-left
decreases-loop-left l = l.left
