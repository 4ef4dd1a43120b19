-- `claim::add_word` meets its contract. The loop's invariant: the rows of the word up to position `at` are added, and `left` has the others. The measure is `left`.
-- Assumes nothing.
use Rattle.std.proofs.Common.{◌+◌, ◌^◌, ◌<◌, div-le_self, arith}
use lib.Count.{count_trailing_zeros}
use Rattle.claim.proofs.Words.{adding-none, next-within, adding-more, adding-all}
use Rattle.claim.proofs.add_word.Goals as goal
use Rattle.claim.proofs.add_word.Goals.{In-loop-left}

-- the next row is one of the word's
module _ (c : In-loop-left) where
  some : 0 < c.loop-left.left
  some = omega (arith, c.loop-left-test.true)

  next : c.loop-left.at + count_trailing_zeros 64 c.loop-left.left < 1024
  next = omega (arith, next-within _ _ _ _ _ c.loop-left.invariant some, c.loop-left.invariant.from, c.requires.0)

pub loop-left-init : goal.loop-left-init
loop-left-init c = let p = c.requires in adding-none _ _ _ _ _ (omega arith) p.1 p.2

pub overflow_cast-z : goal.overflow_cast-z
overflow_cast-z c = omega (arith, next (goal.at.overflow_cast-z c).In-loop-left)

pub overflow_add-at : goal.overflow_add-at
overflow_add-at c = omega (arith, next (goal.at.overflow_add-at c).In-loop-left)

pub overflow_add-at-in-loop-left : goal.overflow_add-at-in-loop-left
overflow_add-at-in-loop-left c = omega (arith, next (goal.at.overflow_add-at-in-loop-left c).In-loop-left)

pub overflow_add-above : goal.overflow_add-above
overflow_add-above c = omega (arith, c.loop-left.invariant.small, next (goal.at.overflow_add-above c).In-loop-left)

pub overflow_add-taken : goal.overflow_add-taken
overflow_add-taken c = omega (arith, c.loop-left.invariant.few, next (goal.at.overflow_add-taken c).In-loop-left)

pub overflow_shr-left : goal.overflow_shr-left
overflow_shr-left c =
    omega (arith, next-within _ _ _ _ _ c.loop-left.invariant (some (goal.at.overflow_shr-left c).In-loop-left))

pub loop-left-smaller : goal.loop-left-smaller
loop-left-smaller c =
    let w = c.loop-left.left in
    omega (arith, div-le_self w (2 ^ count_trailing_zeros 64 w), some (goal.at.loop-left-smaller c).In-loop-left)

pub loop-left-preserved : goal.loop-left-preserved
loop-left-preserved c =
    adding-more _ _ _ _ _ c.loop-left.invariant (some (goal.at.loop-left-preserved c).In-loop-left) c.flipped_weight.ensures (omega arith)

pub returns : goal.returns
returns c = adding-all _ _ _ _ _ c.loop-left.invariant (omega (arith, c.loop-left-test.false))
