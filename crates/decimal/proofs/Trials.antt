-- The trials of numbers in decimal hold: both sides compute to the same. Assumes nothing.
use mathlib.Core.Path.{refl}
use Rattle.decimal.specs.Decimal.{digits_by, natural, integer}
use Rattle.decimal.specs.Reading.{read_natural, read_integer}
use Rattle.decimal.specs.Trials.{TrialsHold}
use Rattle.stp_words.specs.Bytes.{bytes, within}
use Rattle.stp_words.specs.Numbers.{all_digits, is_empty, decimal, opens_below, below}

pub trials-hold : TrialsHold
unfolding digits_by natural integer read_natural read_integer bytes within all_digits is_empty decimal opens_below below
trials-hold = (refl, refl, refl)
