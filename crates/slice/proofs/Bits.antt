-- Laws of the bits of a number: of the operations and, or, xor and complement, of a power of two, of the lowest set bit, and that a number is its bits.
-- Assumes nothing.
use Prim.Native.Nat.{ℕ, zero, suc, ◌+◌, ◌-◌, ◌/◌, ◌%◌, ◌^◌, ◌<◌}
use mathlib.Core.Path.{◌≡◌, refl, sym, ap, ap₂, ◌∙◌}
use mathlib.Core.Bool.{Bool, true, false, not, cond, xor, ◌&&◌, ◌||◌}
use native.Mathlib.Nat.{mod-eq_of_lt, div-one, zero-div, pow-suc}
use native.Mathlib.Omega.{arith}
use lib.Dec.{eqb, eqb-suc-suc, eqb-zero-suc, eqb-suc-zero}
use lib.Pow.{shr-shr, pow_pos, pow-lt}
use lib.Bits.{bit_and, bit_or, bit_xor, and_shr, or_shr, xor_shr, and_mod, or_mod, xor_mod, and_mask, xor_add_and}
use lib.Count.{count_trailing_zeros, under}
use borrow.Author.Tests.{eqb-true, eqb-false, eq-eqb}
use Rattle.slice.specs.Slices.{bit}

-- the lowest bit, and the others as bits of the half
pub bit-zero : (w : ℕ) → bit w 0 ≡ eqb (w % 2) 1
unfolding bit
bit-zero w = rw div-one

pub bit-suc : (w j : ℕ) → bit w (suc j) ≡ bit (w / 2) j
unfolding bit
bit-suc w j =
    let e : suc j ≡ 1 + j = omega arith in
    ap (λ (n : ℕ). eqb (w / 2 ^ n % 2) 1) e ∙ ap (λ (x : ℕ). eqb (x % 2) 1) (sym (shr-shr w 1 j))

-- 0 has no bit
pub bit-of-zero : (j : ℕ) → bit 0 j ≡ false
unfolding bit
bit-of-zero j = rw zero-div

-- a digit is 1 or 0
digit-cond : (d : ℕ) → d < 2 → d ≡ cond (eqb d 1) 1 0
digit-cond d h = go (eqb d 1) refl
  where
    go : (b : Bool) → eqb d 1 ≡ b → d ≡ cond b 1 0
    go true e = eqb-true d 1 e
    go false e = omega (arith, eqb-false d 1 e)

-- an operation on words that is f on each bit
pub record Bitwise (op : ℕ → ℕ → ℕ) (f : Bool → Bool → Bool) : Type 0 where
  pub shifted : (a b k : ℕ) → op a b / 2 ^ k ≡ op (a / 2 ^ k) (b / 2 ^ k)
  pub lowest : (a b k : ℕ) → op a b % 2 ^ k ≡ op (a % 2 ^ k) (b % 2 ^ k)
  pub digit : (p q : Bool) → eqb (op (cond p 1 0) (cond q 1 0)) 1 ≡ f p q

pub bit-op : (op : ℕ → ℕ → ℕ) (f : Bool → Bool → Bool) → Bitwise op f → (a b j : ℕ) → bit (op a b) j ≡ f (bit a j) (bit b j)
unfolding bit
bit-op op f h a b j =
    ap (λ (x : ℕ). eqb (x % 2) 1) (h.shifted a b j)
    ∙ ap (λ (x : ℕ). eqb x 1) (h.lowest (a / 2 ^ j) (b / 2 ^ j) 1)
    ∙ ap₂ (λ (x y : ℕ). eqb (op x y) 1) (digit-cond (a / 2 ^ j % 2) (omega arith)) (digit-cond (b / 2 ^ j % 2) (omega arith))
    ∙ h.digit (bit a j) (bit b j)

and-digit : (p q : Bool) → eqb (bit_and (cond p 1 0) (cond q 1 0)) 1 ≡ (p && q)
and-digit true true = refl
and-digit true false = refl
and-digit false true = refl
and-digit false false = refl

or-digit : (p q : Bool) → eqb (bit_or (cond p 1 0) (cond q 1 0)) 1 ≡ (p || q)
or-digit true true = refl
or-digit true false = refl
or-digit false true = refl
or-digit false false = refl

xor-digit : (p q : Bool) → eqb (bit_xor (cond p 1 0) (cond q 1 0)) 1 ≡ xor p q
unfolding xor
xor-digit true true = refl
xor-digit true false = refl
xor-digit false true = refl
xor-digit false false = refl

pub and-bitwise : Bitwise bit_and ◌&&◌
and-bitwise = record { shifted = and_shr; lowest = and_mod; digit = and-digit }

pub or-bitwise : Bitwise bit_or ◌||◌
or-bitwise = record { shifted = or_shr; lowest = or_mod; digit = or-digit }

pub xor-bitwise : Bitwise bit_xor xor
xor-bitwise = record { shifted = xor_shr; lowest = xor_mod; digit = xor-digit }

half_lt : (k a : ℕ) → a < 2 ^ suc k → a / 2 < 2 ^ k
half_lt k a h = omega (arith, pow-suc 2 k)

-- a number below 2 ^ k is its k lowest bits
pub same_bits : (k a b : ℕ) → a < 2 ^ k → b < 2 ^ k → ((j : ℕ) → j < k → bit a j ≡ bit b j) → a ≡ b
same_bits zero a b ha hb h = omega arith
same_bits (suc k) a b ha hb h =
    let low : a % 2 ≡ b % 2 =
    digit-cond (a % 2) (omega arith) ∙ ap (λ (t : Bool). cond t 1 0) (sym (bit-zero a) ∙ h 0 (omega arith) ∙ bit-zero b) ∙ sym (digit-cond (b % 2) (omega arith)) in
    let high : a / 2 ≡ b / 2 =
    same_bits k (a / 2) (b / 2) (half_lt k a ha) (half_lt k b hb) (λ j l. sym (bit-suc a j) ∙ h (suc j) (omega arith) ∙ bit-suc b j) in
    omega arith

-- the bits of the number whose k lowest bits are all set
pub bit-ones : (k j : ℕ) → j < k → bit (2 ^ k - 1) j ≡ true
bit-ones zero j h = absurd (omega arith)
bit-ones (suc k) zero h = bit-zero (2 ^ suc k - 1) ∙ eq-eqb ((2 ^ suc k - 1) % 2) 1 (omega (arith, pow-suc 2 k, pow_pos k))
bit-ones (suc k) (suc j) h =
    bit-suc (2 ^ suc k - 1) j
    ∙ ap (λ (x : ℕ). bit x j) (omega (arith, pow-suc 2 k, pow_pos k))
    ∙ bit-ones k j (omega arith)

pub xor-true : (b : Bool) → xor b true ≡ not b
unfolding xor
xor-true true = refl
xor-true false = refl

-- 2 ^ j has bit j alone
pub bit-pow : (j i : ℕ) → bit (2 ^ j) i ≡ eqb i j
bit-pow zero zero = bit-zero 1
bit-pow zero (suc i) = bit-suc 1 i ∙ bit-of-zero i ∙ sym (eqb-suc-zero i)
bit-pow (suc j) zero =
    let even : 2 ^ suc j % 2 ≡ 0 = omega (arith, pow-suc 2 j) in
    bit-zero (2 ^ suc j) ∙ ap (λ (x : ℕ). eqb x 1) even ∙ sym (eqb-zero-suc j)
bit-pow (suc j) (suc i) =
    let half : 2 ^ suc j / 2 ≡ 2 ^ j = omega (arith, pow-suc 2 j) in
    bit-suc (2 ^ suc j) i ∙ ap (λ (x : ℕ). bit x i) half ∙ bit-pow j i ∙ sym (eqb-suc-suc i j)

-- the complement of a number of k bits is its xor with k set bits
pub complement-xor : (k a : ℕ) → a < 2 ^ k → (2 ^ k - 1) - a ≡ bit_xor a (2 ^ k - 1)
complement-xor k a h =
    omega (arith, xor_add_and a (2 ^ k - 1), and_mask a k, mod-eq_of_lt h)

-- a number with bit k set, and with bit k of 64 cleared
pub bit-set : (w k j : ℕ) → bit (bit_or w (2 ^ k)) j ≡ (bit w j || eqb j k)
bit-set w k j = bit-op bit_or ◌||◌ or-bitwise w (2 ^ k) j ∙ ap (λ (b : Bool). bit w j || b) (bit-pow k j)

pub bit-clear : (w k j : ℕ) → k < 64 → j < 64 → bit (bit_and w ((2 ^ 64 - 1) - 2 ^ k)) j ≡ (bit w j && not (eqb j k))
unfolding xor
bit-clear w k j hk hj =
    bit-op bit_and ◌&&◌ and-bitwise w ((2 ^ 64 - 1) - 2 ^ k) j
    ∙ ap (λ (b : Bool). bit w j && b)
    (ap (λ (a : ℕ). bit a j) (complement-xor 64 (2 ^ k) (pow-lt hk))
    ∙ bit-op bit_xor xor xor-bitwise (2 ^ k) (2 ^ 64 - 1) j
    ∙ ap₂ xor (bit-pow k j) (bit-ones 64 j hj)
    ∙ xor-true (eqb j k))

-- the bits below the lowest set bit are not set
pub bit-below-trailing : (k n j : ℕ) → j < count_trailing_zeros k n → bit n j ≡ false
unfolding count_trailing_zeros
bit-below-trailing zero n j h = absurd (omega arith)
bit-below-trailing (suc k) n zero h = bit-zero n ∙ go (n % 2) h
  where
    go : (d : ℕ) → 0 < under d (count_trailing_zeros k (n / 2)) → eqb d 1 ≡ false
    go zero l = refl
    go (suc d) l = absurd (omega arith)
bit-below-trailing (suc k) n (suc j) h = bit-suc n j ∙ bit-below-trailing k (n / 2) j (go (n % 2) h)
  where
    go : (d : ℕ) → suc j < under d (count_trailing_zeros k (n / 2)) → j < count_trailing_zeros k (n / 2)
    go zero l = omega arith
    go (suc d) l = absurd (omega arith)

-- of a number of k bits that is not 0, the number of zeros below the lowest set bit is below k, and that bit is set
pub bit-at-trailing : (k n : ℕ) → 0 < n → n < 2 ^ k → (count_trailing_zeros k n < k) × (bit n (count_trailing_zeros k n) ≡ true)
unfolding count_trailing_zeros
bit-at-trailing zero n p h = absurd (omega arith)
bit-at-trailing (suc k) n p h = go (n % 2) refl (λ q. bit-at-trailing k (n / 2) q (half_lt k n h))
  where
    go : (d : ℕ) → n % 2 ≡ d → (0 < n / 2 → (count_trailing_zeros k (n / 2) < k) × (bit (n / 2) (count_trailing_zeros k (n / 2)) ≡ true))
        → (under d (count_trailing_zeros k (n / 2)) < suc k) × (bit n (under d (count_trailing_zeros k (n / 2))) ≡ true)
    go zero e rest = let r = rest (omega arith) in (omega arith, bit-suc n (count_trailing_zeros k (n / 2)) ∙ r.1)
    go (suc d) e rest = (omega arith, bit-zero n ∙ eq-eqb (n % 2) 1 (omega arith))
