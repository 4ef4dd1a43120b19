-- Laws of tables for whoever uses them: what the columns and rows are outside their ranges, and the table of zeros.
-- Assumes nothing.
use Prim.Native.Nat.{ℕ, zero, suc, ◌+◌, ◌-◌, ◌≤◌, ◌<◌}
use mathlib.Core.Bool.{false}
use mathlib.Core.Path.{◌≡◌, refl, sym, ◌∙◌, fun_ext}
use native.Mathlib.Omega.{arith}
use native.Mathlib.Decide.{dec_lt}
use mathlib.Core.Logic.{by_cases}
use lib.ListN.{length, get_or, replicate, get_or-eq_default}
use Rattle.rowset.specs.Sets.{empty, up_to}
use Rattle.slice.specs.Slices.{size, component}
use Rattle.slice.specs.declared.Slice.{Slice}
use Rattle.slice.proofs.Bits.{bit-of-zero}
use Rattle.slice.proofs.Laws.{component-outside}
use Rattle.slice.proofs.Sets.{up_to-inside}
use Rattle.slice.proofs.Stores.{get_d-within}
use Rattle.slice_planes.proofs.Words.{blank-empty}
use Rattle.rowset.proofs.Laws.{clash}
use Rattle.table.specs.Tables.{width, blank, column, row, NothingOutside}
use Rattle.table.specs.declared.Table.{Table}
use Rattle.table.proofs.Columns.{number-bits}

-- column j + 1 stands at index j
pub column-at : (t : Table) (j : ℕ) (d : Slice) → j < length t.columns → component (get_or t.columns j d) ≡ column t (suc j)
unfolding column
column-at t j d h = rw (get_d-within t.columns j d blank h)

-- a column outside 1 to 32 is empty
pub column-below : (t : Table) (j : ℕ) → j < 1 → column t j ≡ empty
unfolding column
column-below t zero h = refl
column-below t (suc j) h = absurd (omega arith)

pub column-above : (t : Table) (j : ℕ) → length t.columns < j → column t j ≡ empty
unfolding column
column-above t zero h = absurd (omega arith)
column-above t (suc j) h =
    let past : length t.columns ≤ j = omega arith in
    rw (get_or-eq_default t.columns blank past) blank-empty

repeated : {A : Type 0} (n j : ℕ) (a : A) → get_or (replicate n a) j a ≡ a
repeated zero j a = refl
repeated (suc n) zero a = refl
repeated (suc n) (suc j) a = repeated n j a

-- the columns of the table of zeros
pub columns-of-zero : column (record { columns = replicate 32 blank }) ≡ (λ j. empty)
columns-of-zero = fun_ext go
  where
    go : (j : ℕ) → column (record { columns = replicate 32 blank }) j ≡ empty
    go zero = column-below _ 0 (omega arith)
    go (suc j) = unfold column in rw (repeated 32 j blank) blank-empty

-- a table whose columns are all empty has zeros alone
pub rows-of-empty : (t : Table) → column t ≡ (λ j. empty) → row t ≡ (λ i. 0)
unfolding row empty
rows-of-empty t e = fun_ext (λ i. number-bits (column t) 0 width 0 i (omega arith) (λ k h. rw (e, bit-of-zero)))

-- no column has a row outside 1 to 1,024
column-outside : (t : Table) (j i : ℕ) → up_to size i ≡ false → column t j i ≡ false
unfolding column empty
column-outside t zero i h = refl
column-outside t (suc j) i h = component-outside (get_or t.columns j blank) i h

-- ROW outside 1 to 1,024 is 0, and COL outside 1 to 32 is empty
pub nothing-outside : NothingOutside
unfolding row
nothing-outside t len =
    record {
      rows = λ i h. number-bits (column t) 0 width 0 i (omega arith) (λ k l. column-outside t (0 + (32 - k)) i h ∙ sym (bit-of-zero k));
      columns =
          λ j h. by_cases (dec_lt j 1) (column-below t j)
          (λ a. by_cases (dec_lt width j) (λ b. column-above t j (omega arith)) (λ b. clash (up_to-inside width j (omega arith) (omega arith)) h));
    }
