-- `districts_forests::forests_of` meets its contract: columns of zeros hold the ends once these are loaded. Assumes nothing.
use Rattle.table_loads.proofs.Numbers.{zeros}
use Rattle.districts_forests.proofs.forests_of.Goals as goal

pub forests_in-requires : goal.forests_in-requires
forests_in-requires c = (c.put_ends.ensures.last zeros, c.put_ends-2.ensures.last zeros)
