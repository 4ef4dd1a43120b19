-- `outlets_swaps::find` meets its contract, by what its calls ensure. Assumes nothing.
use Rattle.outlets_swaps.specs.Steps.Exchanges.{dearest}
use Rattle.outlets_swaps.proofs.find.Goals as goal

pub returns : goal.returns
unfolding dearest
returns c =
    let d = c.dearest_at-e.ensures in record {
      out = rw (← d);
      cost = rw (← d, ← c.cost_of.ensures);
    }
