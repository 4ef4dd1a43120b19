-- `which_decide::below` meets its contract: the order of the integers of 64 bits is that of the bits with the first one turned over. Assumes nothing.
use Rattle.which_decide.proofs.Laws.{wide-order}
use Rattle.which_decide.proofs.below.Goals as goal

pub returns : goal.returns
returns c = rw wide-order
