-- `districts::grow_city` meets its contract: the forests, and the tree over their rows. Assumes nothing.
use Rattle.districts.proofs.grow_city.Goals as goal

pub returns : goal.returns
returns c = record { all = c.forests_of-forests.ensures; tree = c.grow_tree-tree.ensures }
