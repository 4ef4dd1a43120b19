-- `outlets_start::grow` meets its contract. The loop's invariant: where MATCH gives the rows with each end, the slices are those of the fragment of k vertices.
-- Assumes nothing.
use Prim.Native.Nat.{◌-◌}
use mathlib.Core.Path.{◌≡◌}
use Rattle.outlets_theory.specs.Degree.{touches, preferred}
use Rattle.search_join.specs.Steps.Ends.{EachEnd}
use Rattle.path_matrix.specs.Matrix.{matrix_column}
use Rattle.rowset.specs.Columns.{width}
use Rattle.rowset.specs.Integers.{integer_in}
use Rattle.rowset.specs.Sets.{both}
use Rattle.rowset.specs.Words.{in_words}
use Rattle.slice.specs.Slices.{component}
use Rattle.table.specs.Loads.{loaded_row}
use Rattle.outlets_start.specs.Steps.Start.{graph_in, Begun}
use Rattle.outlets_start.proofs.grow.Given as goal

abbrev pub invariant-loop-k : goal.invariant-loop-k
invariant-loop-k l =
    EachEnd l.words l.left_ends (loaded_row 1 l.left) (component l.rows) → EachEnd l.words l.right_ends (loaded_row 1 l.right) (component l.rows)
    → component l.at ≡ both (component l.rows) (touches (graph_in (loaded_row 1 l.left) (loaded_row 1 l.right) (component l.rows) l.n) l.r)
    → preferred (graph_in (loaded_row 1 l.left) (loaded_row 1 l.right) (component l.rows) l.n) (integer_in (matrix_column l.weights) l.first (width - l.first)) l.r (component l.rows) ≡ l.i
    → Begun (graph_in (loaded_row 1 l.left) (loaded_row 1 l.right) (component l.rows) l.n) (integer_in (matrix_column l.weights) l.first (width - l.first)) l.r l.k (in_words l.x) (in_words l.y) (in_words l.chosen)
