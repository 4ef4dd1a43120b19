-- What a table means: the number in each row, read from 32 bit columns of which the first is the most significant.
-- Assumes nothing.
use Rattle.std.specs.Prelude.{ℕ, zero, suc, Bool, false, ◌≡◌, length, get_or}
use Rattle.rowset.specs.Columns.{in_columns}
pub use Rattle.rowset.specs.Columns.{width}
use Rattle.rowset.specs.Sets.{empty, up_to}
pub use Rattle.slice_planes.specs.Planes.{blank}
use Rattle.slice.specs.Slices.{size, component}
use Rattle.table.specs.declared.Table.{Table}

-- the rows whose bit in column j is 1: COL
unfoldable pub column : Table → ℕ → ℕ → Bool
column t zero = empty
column t (suc j) = component (get_or t.columns j blank)

-- the number in row i: ROW
unfoldable pub row : Table → ℕ → ℕ
row t i = in_columns (column t) 0 width i

-- outside 1 to 1,024 ROW is 0, and outside 1 to 32 COL is empty
pub record EmptyOutside (t : Table) : Type 0 where
  pub rows : (i : ℕ) → up_to size i ≡ false → row t i ≡ 0
  pub columns : (j : ℕ) → up_to width j ≡ false → column t j ≡ empty

-- The theorem that this holds of every table; its proof is proofs/Laws.antt.
abbrev pub NothingOutside : Type 0
NothingOutside = (t : Table) → length t.columns ≡ width → EmptyOutside t
