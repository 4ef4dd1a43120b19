-- `mst1::cheapest` meets its contract: it is FND of MIN.
-- Assumes nothing.
use Rattle.mst1.proofs.cheapest.Goals as goal

pub returns : goal.returns
returns c = rw (← c.min_from.ensures) c.fnd.ensures
