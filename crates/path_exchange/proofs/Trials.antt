-- The trials of the columns turned over hold: the definitions compute to what each says.
-- Assumes nothing.
use mathlib.Core.Bool.{xor}
use mathlib.Core.Path.{refl}
use Rattle.rowset.specs.Sets.{empty, up_to, one_of, put}
use Rattle.rowset.specs.Trials.{these}
use Rattle.rowset.specs.Words.{word_at, column_words_from}
use Rattle.slice.specs.Slices.{bit}
use Rattle.path_matrix.specs.Matrix.{has_column, matrix_column, with_column}
use Rattle.path_exchange.specs.Trials.{TrialsHold}
use Rattle.path_exchange.specs.Turned.{column_turned, columns_turned}

pub trials-hold : TrialsHold
unfolding empty up_to one_of put these xor word_at column_words_from bit has_column matrix_column with_column column_turned columns_turned
trials-hold = (refl, refl, refl, refl, refl)
