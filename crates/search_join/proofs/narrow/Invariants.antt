-- `search_join::narrow` meets its contract. The loop's invariant: z has the rows that equal w in the k rightmost columns, none past the words that are read, and at least k columns are read.
-- Assumes nothing.
use lib.ListN.{length}
use mathlib.Core.Path.{◌≡◌}
use Rattle.path_matrix.specs.Matrix.{matrix_column}
use Rattle.search_columns.specs.Steps.Rows.{rows_of, NonePast}
use Rattle.search_match.proofs.Counts.{Right}
use Rattle.search_join.proofs.narrow.Given as goal

abbrev pub invariant-loop-k : goal.invariant-loop-k
invariant-loop-k g l = Right (matrix_column l.columns) l.w (record { words = l.initial.z }) l.count (record { words = l.z }) l.k × NonePast g.row.N (rows_of l.z) × (length l.z ≡ 16)
