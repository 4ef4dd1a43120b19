-- Byte columns: the number in each row of a column of bytes with one byte a row, or four, least significant first.
-- Assumes nothing.
use Rattle.std.specs.Prelude.{ℕ, zero, suc, ◌+◌, ◌*◌, List, get_or}

-- the number in the k bytes from index at on, least significant first; a byte past the column's end counts as 0
unfoldable pub little : List ℕ → ℕ → ℕ → ℕ
little l at zero = 0
little l at (suc k) = get_or l at 0 + 256 * little l (suc at) k

-- the number in row i of a column with k bytes a row; rows are counted from 1, and 0 is no row
unfoldable pub in_row : ℕ → List ℕ → ℕ → ℕ
in_row k l zero = 0
in_row k l (suc i) = little l (k * i) k
