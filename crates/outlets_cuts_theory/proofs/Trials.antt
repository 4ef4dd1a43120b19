-- The trials hold: the definitions compute to what each says.
-- Assumes nothing.
use mathlib.Core.Bool.{xor}
use mathlib.Core.Path.{refl}
use Rattle.districts_theory.specs.Growing.{misses, next_row, with_row, grown, grown_forest}
use Rattle.graph_theory.specs.Builder.{cheapest}
use Rattle.graph_theory.specs.Graph.{crosses, with_ends, step, grow, joined}
use Rattle.graph_theory.specs.Tree.{on_path}
use Rattle.graph_theory.specs.Yard.{set_of, listed}
use Rattle.outlets_cuts_theory.specs.Cuts.{cut_of, lightest_for, cut_turned}
use Rattle.outlets_cuts_theory.specs.Trials.{TrialsHold}
use Rattle.outlets_forest_theory.specs.Forest.{away_from, forest_away}
use Rattle.outlets_theory.specs.Degree.{touches}
use Rattle.rowset.specs.Searches.{smallest}
use Rattle.rowset.specs.Sets.{empty, up_to, both, one_of, without, put, take_out, any, first_of, uppermost}

pub trials-hold : TrialsHold
unfolding xor misses next_row with_row grown grown_forest cheapest crosses with_ends step grow joined on_path set_of listed cut_of lightest_for cut_turned away_from forest_away touches smallest empty up_to both one_of without put take_out any first_of uppermost
trials-hold = refl
