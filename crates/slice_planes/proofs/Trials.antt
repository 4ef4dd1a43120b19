-- The trials of bit planes hold: the definitions compute to what each says.
-- Assumes nothing.
use mathlib.Core.Path.{refl}
use Rattle.rowset.specs.Sets.{up_to}
use Rattle.slice.specs.Slices.{bit, component}
use Rattle.slice_planes.specs.Planes.{plane, bit_plane}
use Rattle.slice_planes.specs.Trials.{TrialsHold}

pub trials-hold : TrialsHold
unfolding up_to bit component plane bit_plane
trials-hold = refl
