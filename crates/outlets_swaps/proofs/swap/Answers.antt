-- `outlets_swaps::swap` meets its contract, by what its calls ensure. Assumes nothing.
use Rattle.outlets_swaps.specs.Steps.Exchanges.{swapped, between}
use Rattle.outlets_swaps.proofs.swap.Goals as goal

-- src/lib.rt:206:1
pub returns : goal.returns
unfolding swapped between
returns c =
    record {
      chosen = rw (← c.put-2.ensures) c.put-3.ensures;
      own = rw (← c.path_of-path.ensures, ← c.put.ensures) c.turn_columns.ensures;
    }
