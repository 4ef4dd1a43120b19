-- The trials hold: the definitions compute to what each says.
-- Assumes nothing.
use mathlib.Core.Bool.{xor}
use mathlib.Core.Path.{refl}
use Rattle.districts_theory.specs.Growing.{misses, next_row, with_row, grown, grown_forest}
use Rattle.graph_theory.specs.Builder.{cheapest}
use Rattle.graph_theory.specs.Graph.{crosses, with_ends}
use Rattle.graph_theory.specs.Yard.{listed}
use Rattle.outlets_forest_theory.specs.Forest.{away_from, forest_away}
use Rattle.outlets_forest_theory.specs.Trials.{TrialsHold}
use Rattle.outlets_theory.specs.Degree.{touches}
use Rattle.rowset.specs.Searches.{smallest}
use Rattle.rowset.specs.Sets.{empty, up_to, both, without, put, any, first_of, uppermost}

pub trials-hold : TrialsHold
unfolding xor misses next_row with_row grown grown_forest cheapest crosses with_ends listed away_from forest_away touches smallest empty up_to both without put any first_of uppermost
trials-hold = refl
