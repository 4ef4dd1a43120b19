-- `outlets_swaps::cheaper` meets its contract, case by case. Assumes nothing.
use mathlib.Core.Path.{sym}
use Rattle.outlets_kept.proofs.Offers.{cheaper-less, cheaper-keeps}
use Rattle.outlets_swaps.proofs.cheaper.Goals as goal

pub returns-then-cost-best : goal.returns-then-cost-best
returns-then-cost-best c = sym (cheaper-less _ _ _ c.if-cost-best.true)

pub returns : goal.returns
returns c = sym (cheaper-keeps _ _ _ c.if-cost-best.false)
