-- Laws of numbers by their digits, the least significant first: a bound, digits in two parts, a digit or a bit read back, sums digit by digit,
-- and digits grouped to larger digits. Assumes nothing.
use mathlib.Core.Bool.{false}
use mathlib.Core.Path.{◌≡◌, refl, ap, sym, ◌∙◌}
use Prim.Native.Nat.{ℕ, zero, suc, ◌+◌, ◌*◌, ◌/◌, ◌%◌, ◌^◌, ◌-◌, ◌≤◌, zero-le, ◌<◌}
use native.Mathlib.Nat.{add-zero, zero-add, add-suc, suc-add, mul-zero, mul-suc, mul_comm, mul_assoc, mul-add, mul_left_comm, one-mul, add_assoc, add_comm, add_left_comm, pow-zero, pow-succ', pow-suc, div-one, div-div-eq-div-mul, div-eq_of_lt, add-mul-div_left, add-mul-mod_self_left, mod-eq_of_lt, lt_of_le_of_lt}
use native.Mathlib.Omega.{arith}
use lib.Arith.{digits_lt}
use lib.Pow.{pow-add, shr-shr, field, mod-mod-pow}
use Rattle.slice_planes.specs.Steps.Blocks.{from_digits}
use Rattle.slice.specs.Slices.{bit}

-- a number with n digits is below the base's n-th power
pub digits-below : (base : ℕ) (f : ℕ → ℕ) → ((k : ℕ) → f k < base) → (s n : ℕ) → from_digits base f s n < base ^ n
unfolding from_digits
digits-below base f h s zero = rw pow-zero (omega arith)
digits-below base f h s (suc n) = rw (pow-suc, add_comm, mul_comm) (digits_lt (digits-below base f h (suc s) n) (h s))

-- two rows of digits that agree, wherever they start
pub digits-ext : (base : ℕ) (f g : ℕ → ℕ) (s t n : ℕ) → ((k : ℕ) → k < n → f (s + k) ≡ g (t + k)) → from_digits base f s n ≡ from_digits base g t n
unfolding from_digits
digits-ext base f g s t zero h = refl
digits-ext base f g s t (suc n) h =
    rw (
      first (h 0 (omega arith)),
      digits-ext base f g (suc s) (suc t) n (λ k l. rw (suc-add, suc-add, ← add-suc, ← add-suc t) (h (suc k) (omega arith))),
    )
  where
    first : f (s + 0) ≡ g (t + 0) → f s ≡ g t
    first e = rw (add-zero, add-zero) at e

-- one more digit at the front
pub digits-down : (base : ℕ) (f : ℕ → ℕ) (l n : ℕ) → 0 < l → l ≤ n → from_digits base f (l - 1) (n - (l - 1)) ≡ from_digits base f l (n - l) * base + f (l - 1)
digits-down base f zero n p q = absurd (omega arith)
digits-down base f (suc m) n p q = go (suc m - 1) (n - (suc m - 1)) (omega arith) (omega arith)
  where
    go : (j k : ℕ) → j ≡ m → k ≡ suc (n - suc m) → from_digits base f j k ≡ from_digits base f (suc m) (n - suc m) * base + f j
    go j k d e = rw (d, e) (unfold from_digits in (rw (add_comm, mul_comm)))

-- digits in two parts
pub digits_append : (base : ℕ) (f : ℕ → ℕ) (s m n : ℕ) → from_digits base f s (m + n) ≡ from_digits base f s m + base ^ m * from_digits base f (s + m) n
unfolding from_digits
digits_append base f s zero n = rw (zero-add, pow-zero, one-mul, zero-add, add-zero)
digits_append base f s (suc m) n =
    rw (suc-add, digits_append base f (suc s) m n, suc-add, add-suc, mul-add, pow-succ', mul_assoc, add_assoc)

-- a digit read back
pub digits-at : (base : ℕ) (f : ℕ → ℕ) → ((k : ℕ) → f k < base) → (s n k : ℕ) → k < n → from_digits base f s n / base ^ k % base ≡ f (s + k)
unfolding from_digits
digits-at base f h s zero k l = absurd (omega arith)
digits-at base f h s (suc n) zero l = rw (pow-zero, div-one, add-mul-mod_self_left, add-zero) (mod-eq_of_lt (h s))
digits-at base f h s (suc n) (suc k) l =
    rw (pow-succ', ← div-div-eq-div-mul, add-mul-div_left _ _ (lt_of_le_of_lt zero-le (h s)), div-eq_of_lt (h s), zero-add, digits-at base f h (suc s) n k (omega arith), suc-add, add-suc)

-- a sum digit by digit
pub digits-add-mul : (base : ℕ) (f g : ℕ → ℕ) (c s n : ℕ) → from_digits base f s n + c * from_digits base g s n ≡ from_digits base (λ k. f k + c * g k) s n
unfolding from_digits
digits-add-mul base f g c s zero = rw (mul-zero, add-zero)
digits-add-mul base f g c s (suc n) = rw (← digits-add-mul base f g c (suc s) n) (simp (mul-add, add_assoc, add_left_comm, mul_left_comm))

-- digits grouped by m to digits in a larger base
pub digits-group : (base m : ℕ) (f : ℕ → ℕ) (s n : ℕ) → from_digits (base ^ m) (λ g. from_digits base f (m * g) m) s n ≡ from_digits base f (m * s) (m * n)
unfolding from_digits
digits-group base m f s zero = rw mul-zero
digits-group base m f s (suc n) =
    rw (digits-group base m f (suc s) n, mul-suc, mul-suc, add_comm (m * n) m, digits_append base f (m * s) m (m * n))

-- a power of a power
pub pow-pow : (b m k : ℕ) → (b ^ m) ^ k ≡ b ^ (m * k)
pow-pow b m zero = rw (mul-zero, pow-zero, pow-zero)
pow-pow b m (suc k) = rw (pow-suc, pow-pow b m k, mul-suc, pow-add)

-- a bit of a number's lowest byte is a bit of the number
byte-bit : (y k : ℕ) → k < 8 → y % 256 / 2 ^ k % 2 ≡ y / 2 ^ k % 2
byte-bit y k h =
    let e : 7 - k + 1 + k ≡ 8 = omega arith in
    ap (λ n. y % 2 ^ n / 2 ^ k % 2) (sym e) ∙ ap (λ z. z % 2) (field y (7 - k + 1) k) ∙ mod-mod-pow (y / 2 ^ k) (7 - k) 1

-- bit k of byte l of a number made of bytes
pub digits-bit : (f : ℕ → ℕ) → ((k : ℕ) → f k < 256) → (s n l k : ℕ) → l < n → k < 8 → from_digits 256 f s n / 2 ^ (k + 8 * l) % 2 ≡ f (s + l) / 2 ^ k % 2
digits-bit f h s n l k hl hk =
    let d = from_digits 256 f s n in
    ap (λ m. d / 2 ^ m % 2) (add_comm k (8 * l))
    ∙ ap (λ z. z % 2) (sym (shr-shr d (8 * l) k))
    ∙ ap (λ p. d / p / 2 ^ k % 2) (sym (pow-pow 2 8 l))
    ∙ sym (byte-bit (d / 256 ^ l) k hk)
    ∙ ap (λ z. z / 2 ^ k % 2) (digits-at 256 f h s n l hl)

-- a number has no bit above its size
pub bit-above : (w k : ℕ) → w < 2 ^ k → bit w k ≡ false
unfolding bit
bit-above w k h = rw (div-eq_of_lt h)
