-- `search_match::match_right` meets its contract. The loop's invariant: z has the rows of x that equal w in the k rightmost columns, and at least k columns are read.
-- Assumes nothing.
use Rattle.path_matrix.specs.Matrix.{matrix_column}
use Rattle.search_match.proofs.Counts.{Right}
use Rattle.search_match.proofs.match_right.Given as goal

abbrev pub invariant-loop-k : goal.invariant-loop-k
invariant-loop-k l = Right (matrix_column l.columns) l.w l.initial.z l.count l.z l.k
