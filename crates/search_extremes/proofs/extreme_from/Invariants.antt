-- `search_extremes::extreme_from` meets its contract. The loop's invariant: z has the rows of x that come first in the columns read, of which the first is turned over, and none past the words that are read.
-- Assumes nothing.
use lib.ListN.{length}
use mathlib.Core.Path.{◌≡◌}
use Rattle.path_matrix.specs.Matrix.{matrix_column}
use Rattle.search_extremes.proofs.Loops.{Sought}
use Rattle.search_columns.specs.Steps.Column.{turned}
use Rattle.search_columns.specs.Steps.Rows.{rows_of, NonePast}
use Rattle.search_extremes.proofs.extreme_from.Given as goal

abbrev pub invariant-loop-j : goal.invariant-loop-j
invariant-loop-j l = Sought (turned l.first (matrix_column l.columns)) l.first l.high l.initial.z l.z l.j × NonePast l.used (rows_of l.z.words) × (length l.z.words ≡ 16)
