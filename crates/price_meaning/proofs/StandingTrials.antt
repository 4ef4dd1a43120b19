-- The trials of a row's place by its breaking price hold: the definitions compute to what each trial says. Assumes nothing.
use mathlib.Core.Bool.{xor}
use mathlib.Core.Path.{refl}
use Rattle.graph_theory.specs.Builder.{cheapest, choose, first, next, fragment, tree_of, tree}
use Rattle.graph_theory.specs.Graph.{crosses, with_ends, step, grow, joined}
use Rattle.graph_theory.specs.LeastTotal.{weighed, least_total}
use Rattle.graph_theory.specs.Tree.{on_path}
use Rattle.price_meaning.specs.StandingTrials.{StandingTrialsHold}
use Rattle.price_theory.specs.Breaking.{heaviest_between, breaking}
use Rattle.price_theory.specs.Quote.{priced}
use Rattle.rowset.specs.Integers.{total}
use Rattle.rowset.specs.Searches.{smallest, largest}
use Rattle.rowset.specs.Sets.{empty, up_to, both, put, take_out, any, first_of, uppermost}
use Rattle.rowset.specs.Trials.{these}
use Rattle.star_spec.specs.Mst1.{chosen_rows}

pub standing-trials-hold : StandingTrialsHold
unfolding xor crosses with_ends step grow joined on_path cheapest choose first next fragment tree_of tree weighed least_total heaviest_between breaking priced total smallest largest empty up_to both put take_out any first_of uppermost these chosen_rows
standing-trials-hold = (refl, refl, refl)
