-- The integers that rows hold in bit columns against the integer that the digits of w stand for, and the numbers that GREAT compares.
-- Main statements: the order is the same (integer-above, integer-same), so GREAT over the integers is GREAT over those numbers (great-turned, same-turned).
-- Assumes nothing.
use Prim.Native.Nat.{ℕ, zero, suc, ◌+◌, ◌-◌, ◌*◌, ◌/◌, ◌%◌, ◌^◌, ◌≤◌, ◌<◌}
use borrow.Author.Tests.{ltb-true, ltb-false, lt-ltb, le-ltb, eqb-true, eqb-false}
use lib.Dec.{eqb, ltb}
use lib.IntN.{ℤ, pos, ◌-ℤ◌}
use lib.Pow.{pow_mono}
use lib.Signed.{le_z, lt_z}
use mathlib.Core.Bool.{Bool, true, false, cond, ◌&&◌, and-eq-true_iff}
use mathlib.Core.Path.{◌≡◌, refl, sym, fun_ext}
use native.Mathlib.Nat.{pow-suc, mod-lt, div-eq_of_lt}
use native.Mathlib.Omega.{arith}
use Rattle.search_columns.proofs.Steps.{match-start}
use Rattle.search_columns.specs.Steps.Column.{turned}
use Rattle.search_great.specs.Steps.Column.{turned_bits, above}
use Rattle.rowset.proofs.Integers.{up, down, integers, minus, pos-parts, le_z-true, lt-lt_z, le-le_z, le-lt_z}
use Rattle.rowset.proofs.Laws.{refuted}
use Rattle.rowset.specs.Columns.{in_columns}
use Rattle.rowset.specs.Integers.{from_bits, integer_in}
use Rattle.rowset.specs.Searches.{equal_to, greater_than, same_as}
use Rattle.slice.specs.Slices.{size}
use Rattle.search_columns.proofs.Signs.{integer-parts, same-where}

-- the integer that the last bits of w stand for
word-case : (k y : ℕ) → y < 2 ^ suc k
    → up (cond (ltb (2 * y) (2 ^ suc k)) (pos y) (pos y -ℤ pos (2 ^ suc k))) + 2 ^ k
    ≡ down (cond (ltb (2 * y) (2 ^ suc k)) (pos y) (pos y -ℤ pos (2 ^ suc k))) + cond (ltb y (2 ^ k)) (y + 2 ^ k) (y - 2 ^ k)
word-case k y h = go (ltb y (2 ^ k)) refl
  where
    go : (t : Bool) → ltb y (2 ^ k) ≡ t
        → up (cond (ltb (2 * y) (2 ^ suc k)) (pos y) (pos y -ℤ pos (2 ^ suc k))) + 2 ^ k
        ≡ down (cond (ltb (2 * y) (2 ^ suc k)) (pos y) (pos y -ℤ pos (2 ^ suc k))) + cond t (y + 2 ^ k) (y - 2 ^ k)
    go true e = rw (lt-ltb (2 * y) (2 ^ suc k) (omega (arith, pow-suc 2 k, ltb-true y (2 ^ k) e))) (omega (arith, pos-parts y))
    go false e =
        rw (le-ltb (2 * y) (2 ^ suc k) (omega (arith, pow-suc 2 k, ltb-false y (2 ^ k) e)))
        (omega (arith, pow-suc 2 k, ltb-false y (2 ^ k) e, minus (pos y) (pos (2 ^ suc k)), pos-parts y, pos-parts (2 ^ suc k)))

positive : (k : ℕ) → 0 < 2 ^ k
positive zero = omega arith
positive (suc k) = omega (arith, pow-suc 2 k, positive k)

word-parts : (k w : ℕ) → up (from_bits (suc k) w) + 2 ^ k ≡ down (from_bits (suc k) w) + turned_bits (suc k) w
unfolding from_bits turned_bits
word-parts k w = word-case k (w % 2 ^ suc k) (mod-lt w (positive (suc k)))

-- those bits are no more than k, so before any column is read every selected row is equal to them so far
turned-below : (k w : ℕ) → turned_bits k w < 2 ^ k
unfolding turned_bits
turned-below zero w = omega arith
turned-below (suc k) w = go (ltb (w % 2 ^ suc k) (2 ^ k)) refl
  where
    go : (t : Bool) → ltb (w % 2 ^ suc k) (2 ^ k) ≡ t → cond t (w % 2 ^ suc k + 2 ^ k) (w % 2 ^ suc k - 2 ^ k) < 2 ^ suc k
    go true e = omega (arith, pow-suc 2 k, ltb-true (w % 2 ^ suc k) (2 ^ k) e)
    go false e = omega (arith, pow-suc 2 k, mod-lt w (positive (suc k)), positive k)

pub all-equal : {v : ℕ} (k w : ℕ) (X : ℕ → Bool) → v ≡ turned_bits k w → X ≡ equal_to (λ i. 0) (v / 2 ^ k) X
all-equal k w X e = rw e (sym (match-start (turned_bits k w / 2 ^ k) X (div-eq_of_lt (turned-below k w))))

-- the digits of w as the code has them: half, x, is 2 ^ n
pub half-fits : (n : ℕ) → n ≤ 31 → (0 < 2 ^ n) × (2 ^ n ≤ 2147483648)
half-fits n h = (positive n, pow_mono h)

pub half_is : (n : ℕ) → n ≤ 31 → (1 * 2 ^ n) % 18446744073709551616 ≡ 2 ^ n
half_is n h = omega (arith, half-fits n h)

pub low-digits : (n w x : ℕ) → x ≡ 2 ^ n → w % (2 * x) < x → w % (2 * x) + x ≡ turned_bits (suc n) w
unfolding turned_bits
low-digits n w x e h =
    let d : 2 * x ≡ 2 ^ suc n = omega (arith, pow-suc 2 n) in
    rw (← d, ← e, lt-ltb (w % (2 * x)) x h)

pub high-digits : (n w x : ℕ) → x ≡ 2 ^ n → x ≤ w % (2 * x) → w % (2 * x) - x ≡ turned_bits (suc n) w
unfolding turned_bits
high-digits n w x e h =
    let d : 2 * x ≡ 2 ^ suc n = omega (arith, pow-suc 2 n) in
    rw (← d, ← e, le-ltb (w % (2 * x)) x h)

module _ (c : ℕ → ℕ → Bool) (first : ℕ) where
  above-some : (k w i : ℕ) → 1 ≤ i → i ≤ size
      → lt_z (from_bits (suc k) w) (integer_in c first (suc k) i) ≡ ltb (turned_bits (suc k) w) (in_columns (turned first c) first (suc k) i)
  above-some k w i l u = go (ltb a b) refl
    where
      a : ℕ
      a = turned_bits (suc k) w

      b : ℕ
      b = in_columns (turned first c) first (suc k) i

      go : (t : Bool) → ltb a b ≡ t → lt_z (from_bits (suc k) w) (integer_in c first (suc k) i) ≡ t
      go true e = lt-lt_z (from_bits (suc k) w) (integer_in c first (suc k) i) (omega (arith, integers, ltb-true a b e, word-parts k w, integer-parts c first k i l u))
      go false e = le-lt_z (from_bits (suc k) w) (integer_in c first (suc k) i) (omega (arith, integers, ltb-false a b e, word-parts k w, integer-parts c first k i l u))

  integer-above : (k w i : ℕ) → 1 ≤ i → i ≤ size → lt_z (from_bits k w) (integer_in c first k i) ≡ ltb (turned_bits k w) (in_columns (turned first c) first k i)
  unfolding integer_in from_bits turned_bits in_columns
  integer-above zero w i l u = let e : w % 1 ≡ 0 = omega arith in rw e
  integer-above (suc k) w i l u = above-some k w i l u

  -- and so are the integers equal where the numbers are
  same_some : (k w i : ℕ) → 1 ≤ i → i ≤ size
      → (le_z (integer_in c first (suc k) i) (from_bits (suc k) w) && le_z (from_bits (suc k) w) (integer_in c first (suc k) i))
      ≡ eqb (in_columns (turned first c) first (suc k) i) (turned_bits (suc k) w)
  same_some k w i l u = go (eqb a b) refl
    where
      a : ℕ
      a = in_columns (turned first c) first (suc k) i

      b : ℕ
      b = turned_bits (suc k) w

      x : ℤ
      x = integer_in c first (suc k) i

      y : ℤ
      y = from_bits (suc k) w

      go : (t : Bool) → eqb a b ≡ t → (le_z x y && le_z y x) ≡ t
      go true e =
          let d = eqb-true a b e in
          rw (
            le-le_z x y (omega (arith, integers, d, word-parts k w, integer-parts c first k i l u)),
            le-le_z y x (omega (arith, integers, d, word-parts k w, integer-parts c first k i l u)),
          )
      go false e =
          refuted _
          (λ h.
          let (low, high) = (and-eq-true_iff (le_z x y) _).0 h in
          eqb-false a b e (omega (arith, integers, le_z-true x y low, le_z-true y x high, word-parts k w, integer-parts c first k i l u)))

  integer-same : (k w i : ℕ) → 1 ≤ i → i ≤ size
      → (le_z (integer_in c first k i) (from_bits k w) && le_z (from_bits k w) (integer_in c first k i))
      ≡ eqb (in_columns (turned first c) first k i) (turned_bits k w)
  unfolding integer_in from_bits turned_bits in_columns
  integer-same zero w i l u = let e : w % 1 ≡ 0 = omega arith in rw e
  integer-same (suc k) w i l u = same_some k w i l u

  -- X selects only rows of 1 to 1,024
  module _ (X : ℕ → Bool) (inside : (i : ℕ) → X i ≡ true → (1 ≤ i) × (i ≤ size)) (k : ℕ) where
    pub great-turned : {v : ℕ} (w : ℕ) → v ≡ turned_bits k w → above (in_columns (turned first c) first k) v X ≡ greater_than (integer_in c first k) (from_bits k w) X
    unfolding greater_than above
    great-turned w h = rw h (fun_ext (λ i. same-where (X i) _ _ (λ e. let (l, u) = inside i e in sym (integer-above k w i l u))))

    pub same-turned : {v : ℕ} (w : ℕ) → v ≡ turned_bits k w → equal_to (in_columns (turned first c) first k) v X ≡ same_as (integer_in c first k) (from_bits k w) X
    unfolding same_as equal_to
    same-turned w h = rw h (fun_ext (λ i. same-where (X i) _ _ (λ e. let (l, u) = inside i e in sym (integer-same k w i l u))))
