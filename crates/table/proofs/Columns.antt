-- The columns of a number are its bits.
-- Assumes nothing.
use Prim.Native.Nat.{ℕ, zero, suc, ◌+◌, ◌-◌, ◌/◌, ◌%◌, ◌^◌, ◌≤◌, ◌<◌}
use mathlib.Core.Bool.{Bool, true, false, cond}
use mathlib.Core.Path.{◌≡◌, refl, sym, ap, ◌∙◌}
use native.Mathlib.Nat.{sub-zero, suc-sub-suc, pow-suc, pow-zero}
use native.Mathlib.Omega.{arith}
use lib.Dec.{eqb}
use mir.Val.{bool_byte}
use borrow.Author.Tests.{eqb-true, eqb-false}
use Rattle.rowset.specs.Columns.{in_columns}
use Rattle.slice.specs.Slices.{bit}
use Rattle.slice.proofs.Bits.{bit-zero, bit-suc}

-- a digit below 2 is its bit as a number
digit-back : (d : ℕ) → d < 2 → cond (eqb d 1) 1 0 ≡ d
digit-back d h = go (eqb d 1) refl
  where
    go : (b : Bool) → eqb d 1 ≡ b → cond b 1 0 ≡ d
    go true e = sym (eqb-true d 1 e)
    go false e = omega (arith, eqb-false d 1 e)

-- a bit of a machine's number is that bit as a number
pub as_number : (b : Bool) {d : Bool} → b ≡ d → bool_byte b ≡ cond d 1 0
as_number b e = go b ∙ ap {B = ℕ} (λ x. cond x 1 0) e
  where
    go : (x : Bool) → bool_byte x ≡ cond x 1 0
    go true = refl
    go false = refl

module _ (c : ℕ → ℕ → Bool) where
  -- columns that hold the bits of w hold w
  pub number-bits : (s n w i : ℕ) → w < 2 ^ n → ((k : ℕ) → k < n → c (s + (n - k)) i ≡ bit w k) → in_columns c s n i ≡ w
  unfolding in_columns
  number-bits s zero w i h f = omega (arith, pow-zero 2)
  number-bits s (suc n) w i h f =
      let low : c (s + suc n) i ≡ eqb (w % 2) 1 = (rw sub-zero at (f 0 (omega arith))) ∙ bit-zero w in
      let high : in_columns c s n i ≡ w / 2 =
      number-bits s n (w / 2) i (omega (arith, pow-suc 2 n)) (λ k l. (rw suc-sub-suc at (f (suc k) (omega arith))) ∙ bit-suc w k) in
      rw (high, low, digit-back (w % 2) (omega arith)) (omega arith)

-- columns that agree hold the same number
pub number-ext : (c d : ℕ → ℕ → Bool) (s t n i : ℕ) → ((k : ℕ) → 1 ≤ k → k ≤ n → c (s + k) i ≡ d (t + k) i) → in_columns c s n i ≡ in_columns d t n i
unfolding in_columns
number-ext c d s t zero i f = refl
number-ext c d s t (suc n) i f = rw (number-ext c d s t n i (λ k l u. f k l (omega arith)), f (suc n) (omega arith) (omega arith))
