-- `breaking_door::breaking_door::widened` meets its contract, below 2 ^ 31 and from there on. Assumes nothing.
use native.Mathlib.Omega.{arith}
use Rattle.breaking_door.proofs.Widened.{widened-low, widened-high}
use Rattle.breaking_door.proofs.breaking_door.widened.Goals as goal

pub returns-then-price-lt-NEGATIVE : goal.returns-then-price-lt-NEGATIVE
returns-then-price-lt-NEGATIVE c = widened-low _ (omega arith)

pub returns : goal.returns
returns c = widened-high _ (omega arith) (omega arith)
