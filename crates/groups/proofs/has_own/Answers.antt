-- `groups::has_own` meets its contract: the vertex's byte is the vertex.
-- Assumes nothing.
use lib.Dec.{eqb}
use mathlib.Core.Path.{ap}
use Rattle.groups.proofs.has_own.Goals as goal

pub returns : goal.returns
returns c = ap (λ k. eqb k c.args.v) c.row_byte.ensures
