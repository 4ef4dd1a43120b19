-- `slice::zero` meets its contract. Assumes nothing.
use mathlib.Core.Bool.{not}
use mathlib.Core.Path.{ap}
use Rattle.slice.proofs.zero.Goals as goal

pub returns : goal.returns
returns c = ap not c.some.ensures
