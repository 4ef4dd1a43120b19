-- What CST finds on the tree path between a row's ends: the rows that are heavier than that row, or weigh as much, by a path matrix; and the row that is kept of those with an equal one.
-- Assumes nothing.
use Rattle.std.specs.Prelude.{ℕ, Bool, cond, List, eqb, ℤ}
use Rattle.rowset.specs.Bytes.{in_row}
use Rattle.rowset.specs.Sets.{one_of, any}
use Rattle.path_matrix.specs.Matrix.{matrix_column}
use Rattle.slice.specs.Slices.{size}

-- one of GREAT's two slices, of the rows whose weights are given, compared with a weight, among the selected ones
abbrev pub Search : Type 0
Search = (ℕ → ℤ) → ℤ → (ℕ → Bool) → ℕ → Bool

-- what it finds in the xor of the columns of row i's ends, where f has the weights and w is compared with
unfoldable pub found_on : Search → (f : ℕ → ℤ) → (w : ℤ) → (matrix left right : List ℕ) → ℕ → ℕ → Bool
found_on search f w matrix left right i =
    search f w
    (one_of (matrix_column matrix (in_row 1 left i)) (matrix_column matrix (in_row 1 right i)))

-- the row found already, else row i, if E has a row; 0 where there is none
unfoldable pub remembered : ℕ → (ℕ → Bool) → ℕ → ℕ
remembered found E i = cond (eqb found 0) (cond (any size E) i 0) found
