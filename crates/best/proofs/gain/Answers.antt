-- `best::gain` meets its contract, in both of its cases. Assumes nothing.
use native.Mathlib.Omega.{arith}
use Rattle.best.proofs.gain.Goals as goal

pub returns-then-above-below : goal.returns-then-above-below
returns-then-above-below c = omega (arith, c.if-above-below.true, c.flipped_weight-below.ensures, c.flipped_weight-above.ensures)

pub returns : goal.returns
returns c = omega (arith, c.flipped_weight-below.ensures, c.flipped_weight-above.ensures)
