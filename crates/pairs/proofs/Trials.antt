-- The trials of the pairs hold: the definitions compute to what each trial says.
-- Assumes nothing.
use mathlib.Core.Path.{refl}
use Rattle.pairs.specs.Pairs.{pair_at, has_pair, with_pair}
use Rattle.pairs.specs.Trials.{TrialsHold}
use Rattle.slice.specs.Slices.{bit}

pub trials-hold : TrialsHold
unfolding pair_at has_pair with_pair bit
trials-hold = record { places-hold = refl; words-hold = refl; members-hold = refl; past-hold = refl }
