-- The trials hold: the definitions compute to what each says.
-- Assumes nothing.
use mathlib.Core.Bool.{xor}
use mathlib.Core.Path.{refl}
use Rattle.rowset.specs.Bytes.{little, in_row}
use Rattle.rowset.specs.Columns.{in_columns, repeated_columns}
use Rattle.rowset.specs.Counts.{equal_right, least_from, read_within, columns_read}
use Rattle.rowset.specs.Integers.{from_bits, to_bits, integer_in, total}
use Rattle.rowset.specs.Searches.{equal_to, greater_than, same_as, smallest, largest}
use Rattle.rowset.specs.Sets.{empty, up_to, both, either, one_of, without, put, take_out, any, first_of, uppermost, sum, count, odd}
use Rattle.rowset.specs.Trials.{these, members, TrialsHold}
use Rattle.rowset.specs.Words.{word_at, column_words_from, matrix_words, in_words}

pub trials-hold : TrialsHold
unfolding xor little in_row in_columns repeated_columns from_bits to_bits integer_in total equal_right least_from read_within columns_read equal_to greater_than same_as smallest largest empty up_to both either one_of without put take_out any first_of uppermost sum count odd these members word_at column_words_from matrix_words in_words
trials-hold = (refl, refl, refl, refl, refl, refl, refl, refl, refl, refl)
