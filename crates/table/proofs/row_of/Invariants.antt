-- `table::row_of` meets its contract. The loop's invariant: r is the number in the first columns. Assumes nothing.
use mathlib.Core.Path.{◌≡◌}
use Rattle.rowset.specs.Columns.{in_columns}
use Rattle.table.specs.Tables.{column}
use Rattle.table.proofs.row_of.Given as goal

abbrev pub invariant-loop-column : goal.invariant-loop-column
invariant-loop-column l = l.r ≡ in_columns (column l.fn.t) 0 l.column-index l.i
