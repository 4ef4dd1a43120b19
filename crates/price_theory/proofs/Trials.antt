-- The trials hold: the definitions compute to what each trial says.
-- Assumes nothing.
use mathlib.Core.Bool.{xor}
use mathlib.Core.Path.{refl}
use Rattle.graph_theory.specs.Builder.{cheapest, choose, first, next, fragment, tree_of, tree}
use Rattle.graph_theory.specs.Graph.{crosses, with_ends, step, grow, joined}
use Rattle.graph_theory.specs.LeastTotal.{weighed, least_total}
use Rattle.graph_theory.specs.Tree.{on_path}
use Rattle.price_theory.specs.Breaking.{heaviest_between, breaking, lesser, counted}
use Rattle.price_theory.specs.Quote.{priced, totals, quote}
use Rattle.price_theory.specs.Trials.{TrialsHold}
use Rattle.rowset.specs.Integers.{total}
use Rattle.rowset.specs.Searches.{smallest, largest}
use Rattle.rowset.specs.Sets.{empty, up_to, both, put, take_out, any, first_of, uppermost}

pub trials-hold : TrialsHold
unfolding xor crosses with_ends step grow joined on_path cheapest choose first next fragment tree_of tree weighed least_total heaviest_between breaking lesser counted priced totals quote total smallest largest empty up_to both put take_out any first_of uppermost
trials-hold = (refl, refl, refl)
