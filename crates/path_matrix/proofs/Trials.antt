-- The trials of the columns of a matrix hold: the definitions compute to what each says.
-- Assumes nothing.
use mathlib.Core.Path.{refl}
use Rattle.rowset.specs.Sets.{empty, up_to, put}
use Rattle.rowset.specs.Words.{word_at, column_words_from}
use Rattle.slice.specs.Slices.{bit}
use Rattle.path_matrix.specs.Matrix.{has_column, matrix_column, with_column}
use Rattle.path_matrix.specs.Trials.{TrialsHold}

pub trials-hold : TrialsHold
unfolding empty up_to put word_at column_words_from bit has_column matrix_column with_column
trials-hold = refl
