-- The integers that lent columns hold, where the first columns are left out. Assumes nothing.
use Rattle.std.specs.Prelude.{ℕ, ◌-◌, List, ℤ}
use Rattle.path_matrix.specs.Matrix.{matrix_column}
use Rattle.rowset.specs.Columns.{width}
use Rattle.rowset.specs.Integers.{integer_in}

abbrev pub integers_after : List ℕ → ℕ → ℕ → ℤ
integers_after words first = integer_in (matrix_column words) first (width - first)
