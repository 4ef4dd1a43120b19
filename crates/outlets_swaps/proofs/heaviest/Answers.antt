-- `outlets_swaps::heaviest` meets its contract, by what its calls ensure. Assumes nothing.
use Rattle.outlets_swaps.proofs.heaviest.Goals as goal

pub returns : goal.returns
returns c = cc
