-- `outlets_swaps::reduce` meets its contract: all rows are looked at, and the exchanges are made. Assumes nothing.
use Rattle.outlets_swaps.specs.Steps.Exchanges.{found, first_state}
use Rattle.outlets_swaps.proofs.reduce.Goals as goal

pub returns : goal.returns
unfolding first_state found
returns c =
    let told = rw (c.find_all.ensures.out, c.find_all.ensures.cost) at c.exchanges.ensures in
    record { left = told.left; own = told.own }
