-- Laws of a sum of weights: a position more, and what 64 bits hold of a difference.
-- Assumes nothing.
use Rattle.std.proofs.Common.{◌≡◌, ℕ, ◌+◌, ◌*◌, ◌%◌, ◌<◌, Bool, true, false, cond, ltb, pos, ◌-ℤ◌, refl, add-zero, add-one, arith, ltb-false, ltb-true}
use Rattle.rowset.proofs.Integers.{integers, pos-parts, minus}
use Rattle.rowset.proofs.Signed.{small-bits}
use Rattle.rowset.specs.Integers.{from_bits}
use Rattle.rowset.specs.Sets.{sum}

-- ── A sum from the top ──

module _ (w : ℕ → ℕ) (p : ℕ → Bool) where
  -- the sum with one position more, which belongs or not
  pub sum-in : (m : ℕ) → p (m + 1) ≡ true → sum m w p + w (m + 1) ≡ sum (m + 1) w p
  unfolding sum
  sum-in m e = rw (add-one m, rw add-one at e)

  pub sum-out : (m : ℕ) → p (m + 1) ≡ false → sum m w p ≡ sum (m + 1) w p
  unfolding sum
  sum-out m e = rw (add-one m, rw add-one at e, add-zero)

-- ── What 64 bits hold ──

-- a difference that wraps stands for the integer difference, where both numbers are below 2 ^ 63
pub wrapped : (a b r : ℕ) → a < 9223372036854775808 → b < 9223372036854775808 → r < 18446744073709551616 → (r + b) % 18446744073709551616 ≡ a → from_bits 64 r ≡ pos a -ℤ pos b
wrapped a b r h k l e = rw (small-bits 64 r l) (go (ltb (2 * r) 18446744073709551616) refl)
  where
    go : (t : Bool) → ltb (2 * r) 18446744073709551616 ≡ t → cond t (pos r) (pos r -ℤ pos 18446744073709551616) ≡ pos a -ℤ pos b
    go true f =
        omega (arith, integers, ltb-true (2 * r) 18446744073709551616 f, minus (pos a) (pos b), pos-parts a, pos-parts b, pos-parts r)
    go false f =
        omega (arith, integers, ltb-false (2 * r) 18446744073709551616 f, minus (pos a) (pos b), minus (pos r) (pos 18446744073709551616), pos-parts a, pos-parts b, pos-parts r, pos-parts 18446744073709551616)
