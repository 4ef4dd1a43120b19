-- `groups::count_own` meets its contract. The loop's invariant: `total` is the number of vertices of 1 to v that have their own label.
-- Assumes nothing.
use mathlib.Core.Path.{◌≡◌, sym}
use native.Mathlib.Omega.{arith}
use Rattle.slice_words.proofs.Counts.{bool_small, count_none, count-more}
use Rattle.groups.proofs.count_own.Goals as goal

pub loop-v-init : goal.loop-v-init
loop-v-init c = (omega arith, sym (count_none _))

pub overflow_add-total : goal.overflow_add-total
overflow_add-total c = omega (arith, bool_small c.has_own.result, c.from-total.ensures)

pub loop-v-preserved : goal.loop-v-preserved
loop-v-preserved c =
    let l = c.loop-v in (
      omega (arith, bool_small c.has_own.result, c.from-total.ensures),
      rw c.from-total.ensures (count-more _ _ _ c.has_own.result l.invariant.1 c.has_own.ensures),
    )

pub returns : goal.returns
returns c =
    let l = c.loop-v in
    let all : l.v ≡ c.args.n = omega arith in
    rw all at l.invariant.1
