-- The trials of slices hold: the definitions compute to what each says.
-- Assumes nothing.
use mathlib.Core.Path.{refl}
use Rattle.rowset.specs.Sets.{empty, up_to, put, take_out, first_of, uppermost}
use Rattle.slice.specs.Slices.{bit, component, written}
use Rattle.slice.specs.Trials.{TrialsHold}

pub trials-hold : TrialsHold
unfolding empty up_to put take_out first_of uppermost bit component written
trials-hold = (refl, refl, refl)
