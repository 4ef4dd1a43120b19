-- The invariant of MIN's and MAX's loop over the columns c, from column `first` + 1 on: j columns are read or left out.
-- Assumes nothing.
use Prim.Native.Nat.{ℕ, ◌+◌, ◌-◌, ◌≤◌, ◌<◌}
use native.Mathlib.Omega.{arith}
use native.Mathlib.Nat.{sub_self}
use mathlib.Core.Bool.{Bool}
use mathlib.Core.Path.{◌≡◌, sym}
use Rattle.rowset.specs.Columns.{in_columns}
use Rattle.slice.specs.Slices.{size, component}
use Rattle.slice.specs.declared.Slice.{Slice}
use Rattle.search_extremes.specs.Steps.Column.{preferred, extreme}
use Rattle.search_extremes.proofs.Extremes.{extreme-start, extreme-step}
use Rattle.search_columns.proofs.Loops.{next-count, next-column, component-in}

-- what the rows in the running are after j columns of MIN or MAX: those that come first in the columns read, where z₀ is what they were before the first column
pub record Sought (c : ℕ → ℕ → Bool) (first : ℕ) (high : Bool) (z₀ z : Slice) (j : ℕ) : Type 0 where
  pub from : first ≤ j
  pub upto : j - first ≤ 32 - first
  pub extremes : component z ≡ extreme high size (in_columns c first (j - first)) (component z₀)

module _ (c : ℕ → ℕ → Bool) (first : ℕ) (high : Bool) (z₀ : Slice) where
  pub sought-start : Sought c first high z₀ z₀ first
  unfolding in_columns
  sought-start = record { from = omega arith; upto = omega arith; extremes = rw sub_self (sym (extreme-start high size (component z₀))) }

  pub sought-more : (z z' : Slice) (j : ℕ) → j < 32
      → component z' ≡ preferred size high (component z) (c (j + 1))
      → Sought c first high z₀ z j
      → Sought c first high z₀ z' (j + 1)
  sought-more z z' j h e m =
      record {
        from = omega arith;
        upto = omega arith;
        extremes =
            rw (
              next-count first j m.from,
              extreme-step high size (component z₀) (component-in z₀) c first (j - first),
              next-column c first j m.from,
              ← m.extremes,
            ) e;
      }

  pub sought-all : (z : Slice) (j : ℕ) → 32 ≤ j
      → Sought c first high z₀ z j
      → component z ≡ extreme high size (in_columns c first (32 - first)) (component z₀)
  sought-all z j h m =
      let e : j - first ≡ 32 - first = omega arith in
      rw (← e) m.extremes
