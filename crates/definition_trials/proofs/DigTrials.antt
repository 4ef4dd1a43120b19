-- The trials hold: the definitions compute to what they say, and the order of rows gives the rest. Assumes nothing.
use mathlib.Core.Path.{refl}
use native.Mathlib.Omega.{arith}
use Rattle.decimal.specs.Reading.{read_natural, read_integer}
use Rattle.definition_trials.specs.DigTrials.{WordsHold, OnceEach, FromOne}
use Rattle.digs_spec.specs.Meaning.{Ascending}
use Rattle.digs_spec.specs.Reading.{on_first, split, alike, dig_from, read_row, read_total, at_end, with_row, read_lines, read}
use Rattle.stp_words.specs.Bytes.{bytes, within}
use Rattle.stp_words.specs.Numbers.{all_digits, is_empty, decimal, opens_below, below}

pub words-hold : WordsHold
unfolding read_natural read_integer on_first split alike dig_from read_row read_total at_end with_row read_lines read bytes within all_digits is_empty decimal opens_below below
words-hold = refl

pub once-each : OnceEach
unfolding Ascending
once-each k d ds (above, (twice, rest)) = omega arith

pub from_one : FromOne
unfolding Ascending
from_one d ds (above, rest) = omega arith
