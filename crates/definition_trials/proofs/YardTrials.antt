-- The trials hold: the definitions compute to what they say. Assumes nothing.
use mathlib.Core.Path.{refl}
use Rattle.definition_trials.specs.YardTrials.{YardHolds, PricesHold, GraphHolds, SetsHold}
use Rattle.graph_theory.specs.Yard.{set_of, listed}
use Rattle.rowset.specs.Sets.{up_to}
use Rattle.rowset.specs.Trials.{members}

pub yard-holds : YardHolds
unfolding up_to members
yard-holds = refl

pub prices-hold : PricesHold
prices-hold = refl

pub graph-holds : GraphHolds
unfolding up_to members
graph-holds = refl

pub sets-hold : SetsHold
unfolding set_of listed members
sets-hold = refl
