-- Laws of the number in bit columns: its bound, and columns in two parts.
-- Assumes nothing.
use Prim.Native.Nat.{ℕ, zero, suc, ◌+◌, ◌*◌, ◌^◌, ◌<◌}
use mathlib.Core.Bool.{Bool, true, false, cond}
use mathlib.Core.Path.{◌≡◌}
use native.Mathlib.Nat.{add-zero, add-suc, mul_assoc, pow-suc, pow-zero}
use native.Mathlib.Omega.{arith}
use Rattle.rowset.specs.Columns.{in_columns}

-- a bit as a number is below 2
pub bit-small : (b : Bool) → cond b 1 0 < 2
bit-small true = omega arith
bit-small false = omega arith

module _ (c : ℕ → ℕ → Bool) where
  -- k columns hold a number below 2 ^ k
  pub number-below : (j k i : ℕ) → in_columns c j k i < 2 ^ k
  unfolding in_columns
  number-below j zero i = omega (arith, pow-zero 2)
  number-below j (suc k) i = omega (arith, number-below j k i, bit-small (c (j + suc k) i), pow-suc 2 k)

  -- the number in k + l columns is made of the numbers in the first k and in the last l
  pub number-split : (j k l i : ℕ) → in_columns c j (k + l) i ≡ in_columns c j k i * 2 ^ l + in_columns c (j + k) l i
  unfolding in_columns
  number-split j k zero i = rw add-zero (omega arith)
  number-split j k (suc l) i =
      let e : j + suc (k + l) ≡ j + k + suc l = omega arith in
      rw (add-suc k l, e, pow-suc 2 l, ← mul_assoc (in_columns c j k i) (2 ^ l) 2) (omega (arith, number-split j k l i))
