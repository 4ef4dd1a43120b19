-- The trials of tables and loads hold: the definitions compute to what each says.
-- Assumes nothing.
use mathlib.Core.Path.{refl}
use Rattle.rowset.specs.Bytes.{little, in_row}
use Rattle.rowset.specs.Columns.{in_columns}
use Rattle.rowset.specs.Sets.{empty, up_to}
use Rattle.slice.specs.Slices.{bit, component}
use Rattle.table.specs.Loads.{load_refusal, loaded_row}
use Rattle.table.specs.Tables.{column, row}
use Rattle.table.specs.Trials.{TrialsHold}

pub trials-hold : TrialsHold
unfolding little in_row in_columns empty up_to bit component load_refusal loaded_row column row
trials-hold = (refl, refl, refl)
