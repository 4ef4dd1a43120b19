-- The integers that bits stand for in two's complement.
-- Main statements: the order of the integers is that of the bits with the first one turned over (signed-order); a sum of the integers is the sum of those bits' numbers less 2 ^ 31 for
-- each (total-flipped); integers within k bits read back (bits_back), k bits write back (bits-again), a natural is what its own digits stand for (natural-bits), and 64 bits hold the sum of up to 2 ^ 32 integers of 32 bits (total-small, total-fits).
-- Assumes nothing.
use Prim.Native.Nat.{ℕ, zero, suc, ◌+◌, ◌*◌, ◌-◌, ◌%◌, ◌^◌, ◌≤◌, ◌<◌}
use borrow.Author.Tests.{ltb-true, ltb-false, lt-ltb, le-ltb}
use lib.Dec.{ltb}
use lib.IntN.{ℤ, pos, negsuc, nat_abs, ◌-ℤ◌}
use lib.Signed.{mag, lt_z, ◌≤ℤ◌}
use mathlib.Core.Bool.{Bool, true, false, not, cond, ◌&&◌}
use mathlib.Core.Path.{◌≡◌, refl, ◌∙◌, ap, fun_ext}
use native.Mathlib.Nat.{mod-eq_of_lt, pow-suc}
use native.Mathlib.Omega.{arith}
use Rattle.rowset.proofs.Integers.{up, down, integers, pos-parts, minus, difference, lt-lt_z, le-lt_z, total-parts}
use Rattle.rowset.specs.Integers.{from_bits, to_bits, signed, total}
use Rattle.rowset.specs.Sets.{sum, count}
use Rattle.rowset.specs.Steps.Flipped.{flipped}

-- ── The bits with the first one turned over ──

-- the integer of 32 bits is 2 ^ 31 less than the number of the bits with the first one turned over
pub signed_parts : (x : ℕ) → up (signed x) + 2147483648 ≡ down (signed x) + flipped x
unfolding from_bits flipped
signed_parts x = go (ltb (2 * (x % 4294967296)) 4294967296) refl
  where
    low : x % 4294967296 < 2147483648 → (x + 2147483648) % 4294967296 ≡ x % 4294967296 + 2147483648
    low h = omega arith

    high : 2147483648 ≤ x % 4294967296 → (x + 2147483648) % 4294967296 + 2147483648 ≡ x % 4294967296
    high h = omega arith

    go : (t : Bool) → ltb (2 * (x % 4294967296)) 4294967296 ≡ t → up (cond t (pos (x % 4294967296)) (pos (x % 4294967296) -ℤ pos 4294967296)) + 2147483648 ≡ down (cond t (pos (x % 4294967296)) (pos (x % 4294967296) -ℤ pos 4294967296)) + (x + 2147483648) % 4294967296
    go true e =
        let l : x % 4294967296 < 2147483648 = omega (arith, ltb-true (2 * (x % 4294967296)) 4294967296 e) in
        rw (low l) (omega (arith, pos-parts (x % 4294967296)))
    go false e =
        let l : 2147483648 ≤ x % 4294967296 = omega (arith, ltb-false (2 * (x % 4294967296)) 4294967296 e) in
        omega (arith, high l, minus (pos (x % 4294967296)) (pos 4294967296), pos-parts (x % 4294967296), pos-parts 4294967296)

-- the order of the integers is the order of the bits with the first one turned over
pub signed-order : (a b : ℕ) → lt_z (signed a) (signed b) ≡ ltb (flipped a) (flipped b)
signed-order a b = go (ltb (flipped a) (flipped b)) refl
  where
    go : (t : Bool) → ltb (flipped a) (flipped b) ≡ t → lt_z (signed a) (signed b) ≡ t
    go true e = lt-lt_z (signed a) (signed b) (omega (arith, integers, ltb-true (flipped a) (flipped b) e, signed_parts a, signed_parts b))
    go false e = le-lt_z (signed a) (signed b) (omega (arith, integers, ltb-false (flipped a) (flipped b) e, signed_parts a, signed_parts b))

-- ── Sums ──

-- a sum of the integers is the sum of the flipped bits' numbers, less 2 ^ 31 for each position
flipped-parts : (m : ℕ) (f : ℕ → ℕ) (p : ℕ → Bool) → sum m (λ i. up (signed (f i))) p + 2147483648 * count m p ≡ sum m (λ i. down (signed (f i))) p + sum m (λ i. flipped (f i)) p
unfolding sum count
flipped-parts zero f p = refl
flipped-parts (suc m) f p = go (flipped-parts m f p) (p (suc m))
  where
    go : sum m (λ i. up (signed (f i))) p + 2147483648 * sum m (λ i. 1) p ≡ sum m (λ i. down (signed (f i))) p + sum m (λ i. flipped (f i)) p → (b : Bool) → sum m (λ i. up (signed (f i))) p + cond b (up (signed (f (suc m)))) 0 + 2147483648 * (sum m (λ i. 1) p + cond b 1 0) ≡ sum m (λ i. down (signed (f i))) p + cond b (down (signed (f (suc m)))) 0 + (sum m (λ i. flipped (f i)) p + cond b (flipped (f (suc m))) 0)
    go e true = omega (arith, signed_parts (f (suc m)))
    go e false = omega arith

pub total-flipped : (m : ℕ) (f : ℕ → ℕ) (p : ℕ → Bool) → total m (λ i. signed (f i)) p ≡ pos (sum m (λ i. flipped (f i)) p) -ℤ pos (2147483648 * count m p)
total-flipped m f p =
    omega (
      arith,
      integers,
      total-parts m (λ i. signed (f i)) p,
      flipped-parts m f p,
      minus (pos (sum m (λ i. flipped (f i)) p)) (pos (2147483648 * count m p)),
      pos-parts (sum m (λ i. flipped (f i)) p),
      pos-parts (2147483648 * count m p),
    )

-- ── What 64 bits hold ──

-- the integer of k bits whose number is below 2 ^ k
pub small-bits : (k x : ℕ) → x < 2 ^ k → from_bits k x ≡ cond (ltb (2 * x) (2 ^ k)) (pos x) (pos x -ℤ pos (2 ^ k))
unfolding from_bits
small-bits k x h = rw (mod-eq_of_lt h)

-- integers within suc k bits read back
pub bits_back : (k : ℕ) (z : ℤ) → mag z < 2 ^ k → from_bits (suc k) (to_bits (suc k) z) ≡ z
unfolding to_bits up down
bits_back k (pos n) h =
    small-bits (suc k) n (omega (arith, pow-suc 2 k))
    ∙ rw (lt-ltb (2 * n) (2 ^ suc k) (omega (arith, pow-suc 2 k)))
bits_back k (negsuc n) h =
    small-bits (suc k) (2 ^ suc k - suc n) (omega (arith, pow-suc 2 k))
    ∙ rw (le-ltb (2 * (2 ^ suc k - suc n)) (2 ^ suc k) (omega (arith, pow-suc 2 k)))
    (omega (arith, integers, pow-suc 2 k, minus (pos (2 ^ suc k - suc n)) (pos (2 ^ suc k))))

-- so a natural below 2 ^ k is what its own digits stand for
pub natural-bits : (k x : ℕ) → x < 2 ^ k → from_bits (suc k) x ≡ pos x
unfolding to_bits
natural-bits k x h = bits_back k (pos x) h

-- and their bits are no more
pub bits_small : (k : ℕ) (z : ℤ) → mag z < 2 ^ k → to_bits (suc k) z < 2 ^ suc k
unfolding to_bits
bits_small k (pos n) h = omega (arith, pow-suc 2 k)
bits_small k (negsuc n) h = omega (arith, pow-suc 2 k)

-- k bits write back
pub bits-again : (k x : ℕ) → x < 2 ^ k → to_bits k (from_bits k x) ≡ x
unfolding to_bits up down
bits-again k x h = rw (small-bits k x h) (go (ltb (2 * x) (2 ^ k)))
  where
    below : (z : ℤ) → up z + 2 ^ k ≡ down z + x → to_bits k z ≡ x
    below (pos n) e = absurd (omega arith)
    below (negsuc n) e = omega arith

    go : (t : Bool) → to_bits k (cond t (pos x) (pos x -ℤ pos (2 ^ k))) ≡ x
    go true = refl
    go false = below (pos x -ℤ pos (2 ^ k)) (omega (arith, minus (pos x) (pos (2 ^ k))))

-- an integer of which one part is at most n more than the other has that part at most n
up_small : (z : ℤ) (n : ℕ) → up z ≤ down z + n → up z ≤ n
unfolding up down
up_small (pos x) n h = omega arith
up_small (negsuc x) n h = omega arith

down-small : (z : ℤ) (n : ℕ) → down z ≤ up z + n → down z ≤ n
unfolding up down
down-small (pos x) n h = omega arith
down-small (negsuc x) n h = omega arith

-- the range of an integer by its two parts
parts-mag : (z : ℤ) (n : ℕ) → up z < n → down z ≤ n → mag z < n
unfolding up down
parts-mag (pos x) n h k = h
parts-mag (negsuc x) n h k = k

-- 32 bits stand for the integers from −2,147,483,648 to 2,147,483,647
pub signed_range : (x : ℕ) → (up (signed x) ≤ 2147483647) × (down (signed x) ≤ 2147483648)
unfolding flipped
signed_range x = (up_small (signed x) 2147483647 (omega (arith, signed_parts x)), down-small (signed x) 2147483648 (omega (arith, signed_parts x)))

-- a sum of numbers that are at most c
sum-at-most : (m c : ℕ) (w : ℕ → ℕ) (p : ℕ → Bool) → ((i : ℕ) → w i ≤ c) → sum m w p ≤ c * m
unfolding sum
sum-at-most zero c w p h = omega arith
sum-at-most (suc m) c w p h = go (sum-at-most m c w p h) (p (suc m))
  where
    go : sum m w p ≤ c * m → (b : Bool) → sum m w p + cond b (w (suc m)) 0 ≤ c * suc m
    go e true = omega (arith, h (suc m))
    go e false = omega arith

-- a sum of m integers of 32 bits lies between −m · 2 ^ 31 and m · (2 ^ 31 − 1)
pub total-range : (m : ℕ) (f : ℕ → ℕ) (p : ℕ → Bool) → (up (total m (λ i. signed (f i)) p) ≤ 2147483647 * m) × (down (total m (λ i. signed (f i)) p) ≤ 2147483648 * m)
total-range m f p =
    let t = total-parts m (λ i. signed (f i)) p in (
      up_small (total m (λ i. signed (f i)) p) (2147483647 * m) (omega (arith, sum-at-most m 2147483647 (λ i. up (signed (f i))) p (λ i. (signed_range (f i)).0))),
      down-small (total m (λ i. signed (f i)) p) (2147483648 * m) (omega (arith, sum-at-most m 2147483648 (λ i. down (signed (f i))) p (λ i. (signed_range (f i)).1))),
    )

-- so 64 bits hold it where m is at most 2 ^ 32, and it reads back from them
pub total-small : (m : ℕ) (f : ℕ → ℕ) (p : ℕ → Bool) → m ≤ 4294967296 → mag (total m (λ i. signed (f i)) p) < 2 ^ 63
total-small m f p h =
    let (u, d) = total-range m f p in
    parts-mag (total m (λ i. signed (f i)) p) (2 ^ 63) (omega arith) (omega arith)

pub total-fits : (m : ℕ) (f : ℕ → ℕ) (p : ℕ → Bool) → m ≤ 4294967296 → from_bits 64 (to_bits 64 (total m (λ i. signed (f i)) p)) ≡ total m (λ i. signed (f i)) p
total-fits m f p h = bits_back 63 (total m (λ i. signed (f i)) p) (total-small m f p h)

flipped_below : (x : ℕ) → flipped x < 4294967296
unfolding flipped
flipped_below x = omega arith

-- the difference of two integers of 32 bits is at most 2 ^ 32 − 1
pub difference-small : (x y : ℕ) → signed y ≤ℤ signed x → nat_abs (signed x -ℤ signed y) ≤ 4294967295
difference-small x y h =
    omega (
      arith,
      integers,
      difference (signed x) (signed y) h,
      minus (signed x) (signed y),
      pos-parts (nat_abs (signed x -ℤ signed y)),
      signed_parts x,
      signed_parts y,
      flipped_below x,
    )
