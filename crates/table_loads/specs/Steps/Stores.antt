-- What the functions of `table_loads` store: the words of a table's columns, sixteen a column, of which column 32 - k has bit k of each row.
-- Rows are counted from 0 here. Assumes nothing.
use Rattle.std.specs.Prelude.{ℕ, zero, suc, ◌+◌, ◌-◌, ◌*◌, ◌/◌, ◌%◌, ◌^◌, ◌≤◌, cond, List, ◌≡◌, eqb, length, get_or, set}
use Rattle.slice_planes.specs.Steps.Blocks.{from_digits, row_byte}
use Rattle.table.specs.Loads.{load_refusal}

-- a column of so many rows, with `stride` bytes a row
pub record Rows (column : List ℕ) (stride rows : ℕ) : Type 0 where
  pub some : 1 ≤ stride
  pub four : stride ≤ 4
  pub most : rows ≤ 1024
  pub whole : stride * rows ≡ length column

-- bit k of the byte of each of the 64 rows from row 64 q on, where the bytes stand `stride` apart and the first at `offset`
unfoldable pub plane_word : List ℕ → ℕ → ℕ → ℕ → ℕ → ℕ
plane_word column stride offset q k = from_digits 2 (λ r. row_byte column stride offset r / 2 ^ k % 2) (64 * q) 64

-- w 0 to w (n - 1) stored at index `at` and at every sixteenth index below it
unfoldable pub with_planes : List ℕ → ℕ → (ℕ → ℕ) → ℕ → List ℕ
with_planes l at w zero = l
with_planes l at w (suc k) = set (with_planes l at w k) (at - 16 * k) (w k)

-- word q of the columns of the lowest n bytes
unfoldable pub with_bytes : List ℕ → List ℕ → ℕ → ℕ → ℕ → List ℕ
with_bytes l column stride q zero = l
with_bytes l column stride q (suc n) =
    with_planes (with_bytes l column stride q n) (16 * (31 - 8 * n) + q) (plane_word column stride n q) 8

-- the first n words of the columns
unfoldable pub with_words : List ℕ → List ℕ → ℕ → ℕ → List ℕ
with_words l column stride zero = l
with_words l column stride (suc q) = with_bytes (with_words l column stride q) column stride q stride

-- the columns after a load of a column with `stride` bytes a row: the words that its rows reach, and where it cannot be loaded all as they were
unfoldable pub with_load : List ℕ → List ℕ → ℕ → List ℕ
with_load l column stride = cond (eqb (load_refusal stride column).number 0) (with_words l column stride ((length column / stride + 63) / 64)) l

-- words of a table that are all 0
pub record Zeros (l : List ℕ) : Type 0 where
  pub full : length l ≡ 512
  pub none : (k : ℕ) → get_or l k 0 ≡ 0
