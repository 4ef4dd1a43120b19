-- `search_great::great_from` meets its contract. The loop's invariant: z has the rows that equal v in the columns read, of which the first is turned over, and g those that are greater there; where `four` is true, z has no row past four words.
-- Assumes nothing.
use mathlib.Core.Bool.{true}
use mathlib.Core.Path.{◌≡◌}
use lib.ListN.{length}
use Rattle.path_matrix.specs.Matrix.{matrix_column}
use Rattle.search_great.proofs.Loops.{Comparing}
use Rattle.search_columns.specs.Steps.Column.{turned}
use Rattle.search_columns.specs.Steps.Rows.{rows_of, NonePast}
use Rattle.search_great.proofs.great_from.Given as goal

abbrev pub invariant-loop-j : goal.invariant-loop-j
invariant-loop-j l = Comparing (turned l.first (matrix_column l.columns)) l.first l.v l.initial.z l.g l.z l.j × (l.four ≡ true → NonePast 4 (rows_of l.z.words)) × (length l.g.words ≡ 16) × (length l.z.words ≡ 16)
