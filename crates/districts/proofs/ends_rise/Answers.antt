-- `districts::ends_rise` meets its contract. The loop's invariant: the ends that are left rise from p exactly where all rise from 0.
-- Assumes nothing.
use mathlib.Core.Path.{refl}
use native.Mathlib.Omega.{arith}
use Rattle.districts.proofs.Ends.{rises-not, rises-more, rises-last}
use Rattle.districts.proofs.ends_rise.Goals as goal

pub loop-end-init : goal.loop-end-init
loop-end-init c = refl

pub returns-then-q-p : goal.returns-then-q-p
returns-then-q-p c = rises-not c.args.ends.now _ c.loop-end.p c.loop-end.end-index c.loop-end.invariant (omega arith) (omega arith)

pub loop-end-preserved : goal.loop-end-preserved
loop-end-preserved c = rises-more c.args.ends.now _ c.loop-end.p c.loop-end.end-index c.loop-end.invariant (omega arith) (omega arith)

pub returns : goal.returns
returns c = rises-last c.args.ends.now _ c.loop-end.p c.loop-end.end-index c.loop-end.invariant (omega arith)
