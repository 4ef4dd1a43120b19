-- Laws of a set of pairs as words: a pair whose word is not there; the words that the pairs of small numbers need; two pairs of bytes have the same bit exactly where they are the same pair; and what is in the set once a pair is put in.
-- Main statements: pair-word, same_bit, bit-same, has-with.
-- Assumes nothing.
use Prim.Native.Nat.{ℕ, zero, suc, ◌+◌, ◌*◌, ◌/◌, ◌%◌, ◌^◌, ◌≤◌, ◌<◌}
use mathlib.Core.Bool.{Bool, true, false, ◌||◌, or-false}
use mathlib.Core.Logic.{◌⊎◌, inl, inr, ◌≢◌}
use mathlib.Core.List.{List}
use mathlib.Core.Path.{◌≡◌, refl, sym, ap, ◌∙◌}
use borrow.Author.Tests.{ltb-true, ltb-false, eqb-true, eqb-false, eq-eqb, ne_eqb}
use lib.Bits.{bit_or}
use lib.Dec.{eqb, ltb}
use lib.ListN.{length, get_or, set, replicate, get_or-eq_default, length-set}
use lib.Seq.{set_out, get_or-set_same, get_or-set_other}
use native.Mathlib.Omega.{arith}
use Rattle.pairs.specs.Pairs.{pair_at, has_pair, with_pair}
use Rattle.slice.proofs.Bits.{bit-of-zero, bit-set}
use Rattle.slice.specs.Slices.{bit}

-- a pair whose word is not there
module _ (l : List ℕ) (a b : ℕ) (past : length l ≤ pair_at a b / 64) where
  pub has-past : has_pair l a b ≡ false
  unfolding has_pair
  has-past = rw (get_or-eq_default l 0 past) (bit-of-zero (pair_at a b % 64))

  pub with-past : with_pair l a b ≡ l
  unfolding with_pair
  with-past = set_out l (pair_at a b / 64) _ past

-- the set keeps its words
pub with-length : (l : List ℕ) (a b : ℕ) → length (with_pair l a b) ≡ length l
unfolding with_pair
with-length l a b = length-set l (pair_at a b / 64) _

-- two bytes in order, with the bit of their pair
data Ordered (a b : ℕ) : Type 0 where
  rising : a < b → pair_at a b ≡ 256 * a + b → Ordered a b
  falling : b ≤ a → pair_at a b ≡ 256 * b + a → Ordered a b

ordered : (a b : ℕ) → Ordered a b
unfolding pair_at
ordered a b = go (ltb a b) refl
  where
    go : (t : Bool) → ltb a b ≡ t → Ordered a b
    go true e = rising (ltb-true a b e) (rw e)
    go false e = falling (ltb-false a b e) (rw e)

-- the word of a pair of two numbers, not the same and at most n, is among the first 4 · n
pub pair-word : (n a b : ℕ) → n < 256 → a ≤ n → b ≤ n → a ≢ b → pair_at a b / 64 < 4 * n
pair-word n a b h ha hb apart = elim (ordered a b) [ rising l e ↦ omega arith | falling l e ↦ omega (arith, apart) ]

-- two pairs of bytes have the same bit exactly where they are the same pair, in either order
pub same_bit : (a b x y : ℕ) → ((a ≡ x) × (b ≡ y)) ⊎ ((a ≡ y) × (b ≡ x)) → pair_at a b ≡ pair_at x y
same_bit a b x y (inl (h, k)) = rw (h, k)
same_bit a b x y (inr (h, k)) = rw (h, k) turned
  where
    turned : pair_at y x ≡ pair_at x y
    turned =
        elim (ordered y x) [
          | rising l e ↦ elim (ordered x y) [ rising m f ↦ absurd (omega arith) | falling m f ↦ e ∙ sym f ]
          | falling l e ↦ elim (ordered x y) [ rising m f ↦ e ∙ sym f | falling m f ↦ omega arith ]
        ]

pub bit-same : (a b x y : ℕ) → a < 256 → b < 256 → x < 256 → y < 256 → pair_at a b ≡ pair_at x y → ((a ≡ x) × (b ≡ y)) ⊎ ((a ≡ y) × (b ≡ x))
bit-same a b x y ha hb hx hy h =
    elim (ordered a b) [
      | rising l e ↦ elim (ordered x y) [ rising m f ↦ inl (omega arith, omega arith) | falling m f ↦ inr (omega arith, omega arith) ]
      | falling l e ↦ elim (ordered x y) [ rising m f ↦ inr (omega arith, omega arith) | falling m f ↦ inl (omega arith, omega arith) ]
    ]

-- bit j of the words once bit k is set
set_at : (l : List ℕ) (k j : ℕ) → k / 64 < length l →
    bit (get_or (set l (k / 64) (bit_or (get_or l (k / 64) 0) (2 ^ (k % 64)))) (j / 64) 0) (j % 64) ≡ (bit (get_or l (j / 64) 0) (j % 64) || eqb j k)
set_at l k j h = go (eqb (j / 64) (k / 64)) refl
  where
    go : (t : Bool) → eqb (j / 64) (k / 64) ≡ t →
        bit (get_or (set l (k / 64) (bit_or (get_or l (k / 64) 0) (2 ^ (k % 64)))) (j / 64) 0) (j % 64) ≡ (bit (get_or l (j / 64) 0) (j % 64) || eqb j k)
    go true e =
        let q : j / 64 ≡ k / 64 = eqb-true _ _ e in
        rw (q, get_or-set_same l (k / 64) (bit_or (get_or l (k / 64) 0) (2 ^ (k % 64))) 0 h)
        (bit-set (get_or l (k / 64) 0) (k % 64) (j % 64) ∙ ap (λ t. bit (get_or l (k / 64) 0) (j % 64) || t) (same q))
      where
        same : j / 64 ≡ k / 64 → eqb (j % 64) (k % 64) ≡ eqb j k
        same q = again (eqb (j % 64) (k % 64)) refl
          where
            again : (t : Bool) → eqb (j % 64) (k % 64) ≡ t → t ≡ eqb j k
            again true f = sym (eq-eqb j k (omega (arith, eqb-true (j % 64) (k % 64) f)))
            again false f = sym (ne_eqb j k (λ z. eqb-false (j % 64) (k % 64) f (ap (λ n. n % 64) z)))
    go false e =
        rw (get_or-set_other l (k / 64) (j / 64) (bit_or (get_or l (k / 64) 0) (2 ^ (k % 64))) 0 (eqb-false _ _ e), ne_eqb j k (λ z. eqb-false _ _ e (ap (λ n. n / 64) z)))
        (sym (or-false _))

-- with a pair put in whose word is there, the set has that pair and those that it had
pub has-with : (l : List ℕ) (a b x y : ℕ) → pair_at a b / 64 < length l → has_pair (with_pair l a b) x y ≡ (has_pair l x y || eqb (pair_at x y) (pair_at a b))
unfolding has_pair with_pair
has-with l a b x y = set_at l (pair_at a b) (pair_at x y)

-- words of 0 have no pair
pub has-none : (n x y : ℕ) → has_pair (replicate n 0) x y ≡ false
unfolding has_pair
has-none n x y = rw (zeros n (pair_at x y / 64)) (bit-of-zero (pair_at x y % 64))
  where
    zeros : (n k : ℕ) → ◌≡◌ {A = ℕ} (get_or (replicate n 0) k 0) 0
    zeros zero k = refl
    zeros (suc n) zero = refl
    zeros (suc n) (suc k) = zeros n k
