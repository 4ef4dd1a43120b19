-- A truth value as a number, and the number of rows of a slice, row by row and word by word. Assumes nothing.
use Prim.Native.Nat.{ℕ, zero, suc, ◌+◌, ◌*◌, ◌/◌, ◌%◌, ◌^◌, ◌≤◌, ◌<◌}
use mathlib.Core.Bool.{Bool, true, false, cond}
use mathlib.Core.Path.{◌≡◌, refl, sym, ap, ◌∙◌}
use mir.Val.{bool_byte}
use native.Mathlib.Nat.{add-zero, add-suc, mod-lt}
use native.Mathlib.Numerals.{add-one}
use native.Mathlib.Omega.{arith}
use lib.Count.{ones, ones_in, ones_cat}
use lib.Dec.{eqb}
use lib.Pow.{mod-pow-add, pow_pos}
use Rattle.rowset.specs.Sets.{sum, count}
use Rattle.slice.specs.Slices.{bit}

-- a truth value is at most 1
pub bool_small : (b : Bool) → bool_byte b ≤ 1
bool_small true = omega arith
bool_small false = omega arith

-- and it is 1 where the other that it equals is true
pub bool-number : (b s : Bool) → b ≡ s → bool_byte b ≡ cond s 1 0
bool-number b true e = rw e
bool-number b false e = rw e

-- no row, and one row more
pub count_none : (p : ℕ → Bool) → count 0 p ≡ 0
unfolding count sum
count_none p = refl

pub count-more : (p : ℕ → Bool) (i n : ℕ) (b : Bool) → n ≡ count i p → b ≡ p (i + 1) → n + bool_byte b ≡ count (i + 1) p
unfolding count sum
count-more p i n b e h = rw (bool-number b (p (i + 1)) h, e, add-one i)

-- a binary digit has as many ones as it is
ones-digit : (a : ℕ) → a < 2 → ones a ≡ cond (eqb a 1) 1 0
unfolding ones ones_in
ones-digit zero h = refl
ones-digit (suc zero) h = refl
ones-digit (suc (suc a)) h = absurd (omega arith)

-- the rows of word k are the ones of the number w
module _ (p : ℕ → Bool) (k w : ℕ) (word : (j : ℕ) → j < 64 → p (64 * k + j + 1) ≡ bit w j) where
  -- those of its lowest j bits
  count-bits : (j : ℕ) → j ≤ 64 → count (64 * k + j) p ≡ count (64 * k) p + ones (w % 2 ^ j)
  unfolding count sum bit
  count-bits zero l =
      let none : w % 2 ^ 0 ≡ 0 = omega arith in
      let zeros : ones (w % 2 ^ 0) ≡ 0 = ap ones none ∙ ones-digit 0 (omega arith) in
      rw add-zero (omega (arith, zeros))
  count-bits (suc j) l =
      let a : ℕ = w / 2 ^ j % 2 in
      let row : p (suc (64 * k + j)) ≡ eqb a 1 = ap p (sym (add-one (64 * k + j))) ∙ word j (omega arith) in
      let part : w % 2 ^ j < 2 ^ j = mod-lt w (pow_pos j) in
      let low : ones (w % 2 ^ (1 + j)) ≡ ones a + ones (w % 2 ^ j) = ap ones (mod-pow-add w 1 j) ∙ ones_cat j a (w % 2 ^ j) part in
      let more : w % 2 ^ suc j ≡ w % 2 ^ (1 + j) = ap (λ (n : ℕ). w % 2 ^ n) (omega arith) in
      let before = count-bits j (omega arith) in
      rw (add-suc (64 * k) j, row) (omega (arith, low, ap ones more, before, ones-digit a (omega arith)))

  -- and all of them
  pub count-word : w < 2 ^ 64 → count (64 * (k + 1)) p ≡ count (64 * k) p + ones w
  count-word h =
      let all : w % 2 ^ 64 ≡ w = omega arith in
      let at : 64 * (k + 1) ≡ 64 * k + 64 = omega arith in
      ap (λ (n : ℕ). count n p) at ∙ count-bits 64 (omega arith) ∙ ap (λ (v : ℕ). count (64 * k) p + ones v) all
