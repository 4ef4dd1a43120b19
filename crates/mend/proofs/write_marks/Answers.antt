-- `mend::write_marks` meets its contract. The loop's invariant: the first i bytes are those of the mended claim, and the others as they were. Assumes nothing.
use native.Mathlib.Omega.{arith}
use Rattle.mend.proofs.Redrawn.{redrawing-none, redrawing-more, redrawing-all}
use Rattle.mend.proofs.write_marks.Goals as goal

pub loop-i-init : goal.loop-i-init
loop-i-init c = redrawing-none _ _ _

pub loop-i-smaller : goal.loop-i-smaller
loop-i-smaller c = omega (arith, c.loop-i.invariant.size)

pub loop-i-preserved : goal.loop-i-preserved
loop-i-preserved c =
    let l = c.loop-i in
    redrawing-more _ _ _ _ _ _ (omega (arith, l.invariant.size)) c.mark_of.ensures l.invariant

pub shape_of-mark : goal.shape_of-mark
shape_of-mark c = c.loop-i.invariant.size

pub returns : goal.returns
returns c = redrawing-all _ _ _ _ _ (omega (arith, c.loop-i.invariant.size)) c.loop-i.invariant
