-- The trials hold: the definitions compute to what each trial says.
-- Assumes nothing.
use mathlib.Core.Bool.{xor}
use mathlib.Core.Path.{refl}
use Rattle.outlets_theory.specs.Degree.{touches, rows_at, preferred, first, next, fragment, start_of, start, path_at, row_out, offers, cost, row_in, swap_for, swap, swaps, reduced, reduced_from, tree_with}
use Rattle.outlets_theory.specs.Trials.{shown, TrialsHold}
use Rattle.graph_theory.specs.Builder.{cheapest, choose}
use Rattle.graph_theory.specs.Graph.{crosses, with_ends, step, grow, joined}
use Rattle.graph_theory.specs.Tree.{on_path, exchange}
use Rattle.graph_theory.specs.Yard.{listed}
use Rattle.rowset.specs.Integers.{total}
use Rattle.rowset.specs.Searches.{smallest, largest}
use Rattle.rowset.specs.Sets.{empty, up_to, both, put, take_out, any, first_of, uppermost, sum, count}

pub trials-hold : TrialsHold
unfolding xor touches rows_at preferred first next fragment start_of start path_at row_out offers cost row_in swap_for swap swaps reduced reduced_from tree_with listed shown cheapest choose crosses with_ends step grow joined on_path exchange total smallest largest empty up_to both put take_out any first_of uppermost sum count
trials-hold = (refl, refl, refl, refl, refl, refl, refl, refl, refl, refl, refl, refl, refl, refl, refl, refl, refl, refl, refl, refl, refl, refl, refl, refl, refl)
