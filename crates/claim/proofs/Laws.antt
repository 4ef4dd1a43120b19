-- The rows of a claim: for a claim of at most 1,024 bytes they are the rows that it marks; and the words of the marked rows, 64 bytes a word.
-- Assumes nothing.
use Rattle.std.proofs.Common.{◌≡◌, ℕ, zero, suc, ◌+◌, ◌-◌, ◌*◌, ◌^◌, ◌<◌, ◌≤◌, Bool, true, false, cond, eqb, List, length, get_or, set, replicate, sym, refl, ap, ◌∙◌, ap₂, lt_of_lt_of_le, add-zero, mul_comm, add_comm, one-mul, mul-zero, arith, length-set, get_or-set_other, get_or-set_same, pow_mono, le-leb}
use borrow.Author.Tests.{lt-leb}
use lib.ListN.{get_or-eq_default}
use mathlib.Core.Logic.{by_cases}
use mir.Val.{bool_byte}
use native.Mathlib.Decide.{ℕ_discrete, dec_lt}
use Rattle.claim.specs.Claims.{claim_rows}
use Rattle.path_matrix.proofs.Laws.{word_at-bit, word_at-bound}
use Rattle.rowset.proofs.Laws.{clash}
use Rattle.rowset.specs.Bytes.{little, in_row}
use Rattle.rowset.specs.Sets.{empty, up_to}
use Rattle.rowset.specs.Words.{word_at}
use Rattle.slice.proofs.Laws.{component-ext}
use Rattle.slice.proofs.Sets.{up_to-inside}
use Rattle.slice.specs.Slices.{size, bit, component}
use Rattle.slice.specs.declared.Slice.{Slice}
use Rattle.star_spec.specs.Call.{marked}

-- the rows of a claim that fits a slice are those that it marks
pub claim_rows-marked : (l : List ℕ) → length l ≤ size → claim_rows l ≡ marked l
unfolding claim_rows
claim_rows-marked l h = rw (le-leb (length l) size h)

-- a longer claim has no rows
pub claim_rows-long : (l : List ℕ) → size < length l → claim_rows l ≡ empty
unfolding claim_rows
claim_rows-long l h = rw (lt-leb (length l) size h)

-- the byte of a row
pub marked-at : (l : List ℕ) (i : ℕ) → marked l (suc i) ≡ eqb (get_or l i 0) 1
unfolding marked in_row little
marked-at l i = rw (one-mul, mul-zero, add-zero)

-- past the end no row is marked
pub marked-past : (l : List ℕ) (i : ℕ) → length l < i → marked l i ≡ false
marked-past l zero h = absurd (omega arith)
marked-past l (suc i) h = let e : length l ≤ i = omega arith in marked-at l i ∙ rw (get_or-eq_default l 0 e)

marked-none : (l : List ℕ) → marked l 0 ≡ false
unfolding marked in_row
marked-none l = refl

-- a truth value as a number
pub as-digit : (b : Bool) {d : Bool} → b ≡ d → bool_byte b ≡ cond d 1 0
as-digit b e = go b ∙ ap {B = ℕ} (λ x. cond x 1 0) e
  where
    go : (x : Bool) → bool_byte x ≡ cond x 1 0
    go true = refl
    go false = refl

-- ── Words of 64 rows ──

-- a word with one row more
pub word-down : (p : ℕ → Bool) (i n : ℕ) → 0 < i → i ≤ n → word_at p i (n - i) * 2 + cond (p i) 1 0 ≡ word_at p (i - 1) (n - (i - 1))
word-down p zero n h l = absurd (omega arith)
word-down p (suc i) n h l = go (suc i - 1) (n - (suc i - 1)) (omega arith) (omega arith)
  where
    go : (j k : ℕ) → j ≡ i → k ≡ suc (n - suc i) → word_at p (suc i) (n - suc i) * 2 + cond (p (suc i)) 1 0 ≡ word_at p j k
    go j k d e = rw (d, e) (unfold word_at in (rw (add_comm, mul_comm)))

-- a word with one byte more
pub word-step : (l : List ℕ) (n i word : ℕ) → word ≡ word_at (marked l) i (n - i) → 0 < i → i ≤ n → word * 2 + bool_byte (eqb (get_or l (i - 1) 0) 1) ≡ word_at (marked l) (i - 1) (n - (i - 1))
word-step l n i word e h k =
    let at : suc (i - 1) ≡ i = omega arith in
    ap₂ (λ a b. a * 2 + b) e (as-digit (eqb (get_or l (i - 1) 0) 1) (sym (marked-at l (i - 1)) ∙ ap (marked l) at)) ∙ word-down (marked l) i n h k

-- a word of at most n rows
pub word_below : (p : ℕ → Bool) (i k n : ℕ) → k ≤ n → word_at p i k < 2 ^ n
word_below p i k n h = lt_of_lt_of_le (word_at-bound p i k) (pow_mono h)

-- a word of no rows
pub word_none : (p : ℕ → Bool) (i k : ℕ) → ((j : ℕ) → i < j → p j ≡ false) → word_at p i k ≡ 0
unfolding word_at
word_none p i zero h = refl
word_none p i (suc k) h = rw (h (suc i) (omega arith), word_none p (suc i) k (λ j l. h j (omega arith)))

-- the words of a slice before word k are those of the marked rows, and the others are 0
pub record Marks (l words : List ℕ) (k : ℕ) : Type 0 where
  pub full : length words ≡ 16
  pub near : 64 * k < length l + 64
  pub done : (q : ℕ) → q < k → get_or words q 0 ≡ word_at (marked l) (64 * q) 64
  pub rest : (q : ℕ) → k ≤ q → get_or words q 0 ≡ 0

pub marks-none : (l : List ℕ) → Marks l (replicate 16 0) 0
marks-none l = record { full = refl; near = omega arith; done = λ q u. absurd (omega arith); rest = λ q u. zeros 16 q }
  where
    zeros : (n q : ℕ) → ◌≡◌ {A = ℕ} (get_or (replicate n 0) q 0) 0
    zeros zero q = refl
    zeros (suc n) zero = refl
    zeros (suc n) (suc q) = zeros n q

pub marks-more : (l words : List ℕ) (k w : ℕ) → Marks l words k → k < 16 → 64 * k < length l → w ≡ word_at (marked l) (64 * k) 64 → Marks l (set words k w) (k + 1)
marks-more l words k w m h i e =
    record {
      full = length-set words k w ∙ m.full;
      near = omega arith;
      done =
          λ q u. by_cases (ℕ_discrete q k) (λ s. rw s (get_or-set_same words k w 0 (omega (arith, m.full)) ∙ e))
          (λ s. get_or-set_other words k q w 0 s ∙ m.done q (omega (arith, s)));
      rest = λ q u. get_or-set_other words k q w 0 (λ s. omega arith) ∙ m.rest q (omega arith);
    }

-- all words
pub marks-all : (l : List ℕ) (x : Slice) (k : ℕ) → length l ≤ size → Marks l x.words k → length l ≤ 64 * k → component x ≡ claim_rows l
marks-all l x k h m past = component-ext x (marked l) outside inside ∙ sym (claim_rows-marked l h)
  where
    outside : (i : ℕ) → up_to size i ≡ false → marked l i ≡ false
    outside zero e = marked-none l
    outside (suc i) e = by_cases (dec_lt size (suc i)) (λ u. marked-past l (suc i) (omega arith)) (λ u. clash (up_to-inside size (suc i) (omega arith) (omega (arith, u))) e)

    word : (q : ℕ) → get_or x.words q 0 ≡ word_at (marked l) (64 * q) 64
    word q =
        by_cases (dec_lt q k) (m.done q)
        (λ u. m.rest q (omega (arith, u)) ∙ sym (word_none (marked l) (64 * q) 64 (λ j v. marked-past l j (omega (arith, u)))))

    inside : (q j : ℕ) → q < 16 → j < 64 → bit (get_or x.words q 0) j ≡ marked l (64 * q + j + 1)
    inside q j u v = ap (λ w. bit w j) (word q) ∙ word_at-bit (marked l) (64 * q) 64 j v
