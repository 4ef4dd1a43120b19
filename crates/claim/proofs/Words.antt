-- The weights of the rows of one word: the loop takes the rows from the lowest bit on, and what is left of the word is shifted down.
-- Assumes nothing.
use Rattle.std.proofs.Common.{◌≡◌, ℕ, zero, suc, ◌+◌, ◌-◌, ◌*◌, ◌/◌, ◌^◌, ◌<◌, ◌≤◌, Bool, true, false, List, sym, ap, ◌∙◌, subst, lt_of_lt_of_le, lt_of_le_of_lt, add-zero, div-le_self, div-one, arith, pow_mono, shr-shr}
use lib.Count.{count_trailing_zeros}
use mathlib.Core.Logic.{by_cases}
use native.Mathlib.Decide.{dec_lt}
use native.Mathlib.Nat.{sub_self, div-eq_of_lt}
use Rattle.table_checks.proofs.Laws.{count-in, count-out}
use Rattle.rowset.proofs.Laws.{clash}
use Rattle.rowset.specs.Bytes.{in_row}
use Rattle.rowset.specs.Steps.Flipped.{flipped}
use Rattle.slice.proofs.Bits.{bit-of-zero, bit-below-trailing, bit-at-trailing}
use Rattle.slice.specs.Slices.{bit}
use Rattle.claim.specs.Steps.Added.{Added}
use Rattle.claim.proofs.Weights.{sum-in, sum-out}

module _ (weight : List ℕ) (p : ℕ → Bool) where
  -- one position more, which belongs, and positions that do not
  added-in : {m above taken v : ℕ} → Added weight p m above taken → p (m + 1) ≡ true → v ≡ flipped (in_row 4 weight (m + 1)) → v < 4294967296 → Added weight p (m + 1) (above + v) (taken + 2147483648)
  added-in {m} a e h s =
      record {
        total = omega (arith, a.total, h, sum-in (λ k. flipped (in_row 4 weight k)) p m e);
        rows = omega (arith, a.rows, count-in p m e);
        small = omega (arith, a.small);
        few = omega (arith, a.few);
      }

  added_out : {m above taken : ℕ} → Added weight p m above taken → p (m + 1) ≡ false → Added weight p (m + 1) above taken
  added_out {m} a e =
      record {
        total = omega (arith, a.total, sum-out (λ k. flipped (in_row 4 weight k)) p m e);
        rows = omega (arith, a.rows, count-out p m e);
        small = omega (arith, a.small);
        few = omega (arith, a.few);
      }

  added-skip : {m above taken : ℕ} (n : ℕ) → Added weight p m above taken → ((j : ℕ) → j < n → p (m + j + 1) ≡ false) → Added weight p (m + n) above taken
  added-skip zero a h = rw add-zero a
  added-skip {m} {above} {taken} (suc n) a h =
      let e : m + n + 1 ≡ m + suc n = omega arith in
      subst (λ x. Added weight p x above taken) e (added_out (added-skip n a (λ j l. h j (omega arith))) (h n (omega arith)))

-- a bit of what is left of a word
shifted-bit : (w d j : ℕ) → bit (w / 2 ^ d) j ≡ bit w (d + j)
unfolding bit
shifted-bit w d j = rw (shr-shr w d j)

high_bit : (w k : ℕ) → w < 2 ^ 64 → 64 ≤ k → bit w k ≡ false
unfolding bit
high_bit w k h l = rw (div-eq_of_lt (lt_of_lt_of_le h (pow_mono l)))

-- after the rows of a word up to position `at`
pub record Adding (weight : List ℕ) (first w₀ above₀ taken₀ above taken at w : ℕ) : Type 0 where
  pub from : first ≤ at
  pub most : at ≤ first + 64
  pub fits : w₀ < 2 ^ 64
  pub left : w ≡ w₀ / 2 ^ (at - first)
  pub small : above ≤ at * 4294967295
  pub few : taken ≤ at * 2147483648
  pub sums : (p : ℕ → Bool) → ((j : ℕ) → j < 64 → p (first + j + 1) ≡ bit w₀ j) → Added weight p first above₀ taken₀ → Added weight p at above taken

module _ (weight : List ℕ) (first w₀ above₀ taken₀ : ℕ) where
  pub adding-none : w₀ < 2 ^ 64 → above₀ ≤ first * 4294967295 → taken₀ ≤ first * 2147483648 → Adding weight first w₀ above₀ taken₀ above₀ taken₀ first w₀
  adding-none h s f =
      record {
        from = omega arith;
        most = omega arith;
        fits = h;
        left = rw (sub_self, div-one);
        small = s;
        few = f;
        sums = λ p e a. a;
      }

  module _ {above taken at w : ℕ} (a : Adding weight first w₀ above₀ taken₀ above taken at w) where
    abbrev d : ℕ
    d = at - first

    bit-left : (j : ℕ) → bit w j ≡ bit w₀ (d + j)
    bit-left j = ap (λ n. bit n j) a.left ∙ shifted-bit w₀ d j

    word_fits : w < 2 ^ 64
    word_fits = rw a.left (lt_of_le_of_lt (div-le_self w₀ (2 ^ d)) a.fits)

    -- the lowest row that is left is one of the word's
    pub next-within : 0 < w → d + count_trailing_zeros 64 w < 64
    next-within h =
        by_cases (dec_lt (d + count_trailing_zeros 64 w) 64) (λ u. u)
        (λ u. clash (sym (bit-left (count_trailing_zeros 64 w)) ∙ (bit-at-trailing 64 w h word_fits).1) (high_bit w₀ (d + count_trailing_zeros 64 w) a.fits (omega (arith, u))))

    pub adding-more : {v : ℕ} → 0 < w → v ≡ flipped (in_row 4 weight (at + count_trailing_zeros 64 w + 1)) → v < 4294967296
        → Adding weight first w₀ above₀ taken₀ (above + v) (taken + 2147483648) (at + count_trailing_zeros 64 w + 1) (w / 2 ^ count_trailing_zeros 64 w / 2)
    adding-more {v} h e s =
        record {
          from = omega (arith, a.from);
          most = omega (arith, a.from, next-within h);
          fits = a.fits;
          left =
              let k : d + z + 1 ≡ at + z + 1 - first = omega (arith, a.from) in
              ap (λ n. n / 2 ^ z / 2) a.left ∙ ap (λ n. n / 2) (shr-shr w₀ d z) ∙ shr-shr w₀ (d + z) 1 ∙ ap (λ n. w₀ / 2 ^ n) k;
          small = omega (arith, a.small);
          few = omega (arith, a.few);
          sums = λ p q b.
              added-in weight p
              (added-skip weight p z (a.sums p q b)
              (λ j l. let i : at + j + 1 ≡ first + (d + j) + 1 = omega (arith, a.from) in ap p i ∙ q (d + j) (omega (arith, next-within h)) ∙ sym (bit-left j) ∙ bit-below-trailing 64 w j l))
              (let i : at + z + 1 ≡ first + (d + z) + 1 = omega (arith, a.from) in ap p i ∙ q (d + z) (next-within h) ∙ sym (bit-left z) ∙ (bit-at-trailing 64 w h word_fits).1)
              e s;
        }
      where
        z : ℕ
        z = count_trailing_zeros 64 w

    -- where nothing is left of the word
    pub adding-all : w ≡ 0 → (p : ℕ → Bool) → ((j : ℕ) → j < 64 → p (first + j + 1) ≡ bit w₀ j) → Added weight p first above₀ taken₀ → Added weight p (first + 64) above taken
    adding-all o p q b =
        let end : at + (first + 64 - at) ≡ first + 64 = omega (arith, a.most) in
        subst (λ x. Added weight p x above taken) end
        (added-skip weight p (first + 64 - at) (a.sums p q b)
        (λ j l.
        let i : at + j + 1 ≡ first + (d + j) + 1 = omega (arith, a.from) in
        ap p i ∙ q (d + j) (omega (arith, a.from)) ∙ sym (bit-left j) ∙ ap (λ n. bit n j) o ∙ bit-of-zero j))
