-- The number that a row holds in bit columns. `c j` is the set of rows whose bit in column j is 1; columns are counted from 1 at the most significant.
-- Assumes nothing.
use Rattle.std.specs.Prelude.{ℕ, zero, suc, ◌+◌, ◌*◌, Bool, cond}
use Rattle.rowset.specs.Sets.{one_of, any}

-- the number of columns of a table
abbrev pub width : ℕ
width = 32

-- the number that row i holds in the k columns after column j
unfoldable pub in_columns : (ℕ → ℕ → Bool) → ℕ → ℕ → ℕ → ℕ
in_columns c j zero i = 0
in_columns c j (suc k) i = 2 * in_columns c j k i + cond (c (j + suc k) i) 1 0

-- of the k columns after column j, the number of those before the first that differs from column 1 at a row of 1 to m; all k where none does.
-- The columns on the left that equal column 1 carry nothing but the sign, and all of them but the last may be left out
unfoldable pub repeated_columns : ℕ → (ℕ → ℕ → Bool) → ℕ → ℕ → ℕ
repeated_columns m c j zero = 0
repeated_columns m c j (suc k) = cond (any m (one_of (c 1) (c (suc j)))) 0 (suc (repeated_columns m c (suc j) k))
