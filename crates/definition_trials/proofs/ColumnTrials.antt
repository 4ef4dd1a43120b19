-- The trials hold: the definitions compute to what they say. Assumes nothing.
use mathlib.Core.Bool.{xor}
use mathlib.Core.Path.{refl}
use Rattle.definition_trials.specs.ColumnTrials.{RepeatedHold}
use Rattle.rowset.specs.Columns.{repeated_columns}
use Rattle.rowset.specs.Sets.{empty, one_of, put, any}
use Rattle.rowset.specs.Trials.{these}

pub repeated-hold : RepeatedHold
unfolding xor repeated_columns one_of empty put any these
repeated-hold = refl
