-- Rows as words that a search narrows in place: what a word becomes at a column, and the loop that narrows the words.
-- Main statements: what that loop does is `narrowed` (narrowed-all), and that is `kept` where no row stands past the words that are read (narrowed-kept).
-- Assumes nothing.
use Prim.Native.Nat.{ℕ, zero, suc, ◌+◌, ◌-◌, ◌*◌, ◌/◌, ◌%◌, ◌^◌, ◌<◌, ◌≤◌}
use native.Mathlib.Decide.{dec_le, dec_lt}
use native.Mathlib.Nat.{eq-or-lt_of_le}
use native.Mathlib.Omega.{arith}
use mathlib.Core.Bool.{Bool, true, false, not, cond, xor, ◌&&◌, and-false}
use mathlib.Core.List.{List, [], ◌∷◌}
use mathlib.Core.Logic.{⊎_elim, by_cases}
use mathlib.Core.Path.{◌≡◌, refl, sym, ap, ap₂, ◌∙◌, fun_ext}
use lib.Bits.{bit_and, bit_xor, xor_zero_r}
use lib.ListN.{length, get_or, set, length-set}
use lib.Seq.{get_or-set_same, get_or-set_other}
use Rattle.path_matrix.specs.Matrix.{matrix_column, has_column}
use Rattle.slice.specs.Slices.{size, bit, component}
use Rattle.slice.specs.declared.Slice.{Slice}
use Rattle.slice.proofs.Bits.{bit-op, and-bitwise, xor-bitwise, bit-ones, bit-of-zero, xor-true}
use Rattle.slice.proofs.Laws.{component-at, component-inside, component-outside, component-above, component-ext}
use Rattle.search_columns.specs.Steps.Column.{kept}
use Rattle.search_columns.specs.Steps.Rows.{rows_of, NonePast, mask, narrowed}
use Rattle.search_columns.proofs.Steps.{kept_at}
use Rattle.search_columns.proofs.Stores.{bit-inside}
use borrow.Author.Tests.{le-leb, lt-leb}

-- what the word w of rows becomes at the word v of a column: the rows whose bit there is b
abbrev pub kept_word : Bool → ℕ → ℕ → ℕ
kept_word b w v = bit_and w (bit_xor v (mask b))

kept-bit : (b : Bool) (w v t : ℕ) → t < 64 → bit (kept_word b w v) t ≡ (bit w t && cond b (bit v t) (not (bit v t)))
unfolding mask
kept-bit true w v t h = rw xor_zero_r (bit-op bit_and ◌&&◌ and-bitwise w v t)
kept-bit false w v t h =
    bit-op bit_and ◌&&◌ and-bitwise w (bit_xor v (2 ^ 64 - 1)) t
    ∙ ap (λ q. bit w t && q) (bit-op bit_xor xor xor-bitwise v (2 ^ 64 - 1) t ∙ ap (xor (bit v t)) (bit-ones 64 t h) ∙ xor-true (bit v t))

-- where x has no row in the words from k on, it has none past n words, where n is at least k
pub none-past : (x : Slice) (k n : ℕ) → k ≤ n → ((p : ℕ) → k ≤ p → p < 16 → get_or x.words p 0 ≡ 0) → NonePast n (component x)
none-past x k n h z i l =
    by_cases (dec_le i size)
    (λ u.
    component-inside x i (omega arith) u
    ∙ ap (λ w. bit w ((i - 1) % 64)) (z ((i - 1) / 64) (omega arith) (omega arith)) ∙ bit-of-zero ((i - 1) % 64))
    (λ o. component-above x i (omega arith))

-- no row that is kept stands past the words that are read
pub none-past-kept : (n : ℕ) (b : Bool) (Z C Y : ℕ → Bool) → Y ≡ kept b Z C → NonePast n Z → NonePast n Y
none-past-kept n b Z C Y e past i h = rw (e, kept_at, past i h)

-- past the end of the words there is nothing
past_words : (l : List ℕ) (p : ℕ) → length l ≤ p → ◌≡◌ {A = ℕ} (get_or l p 0) 0
past_words [] p h = refl
past_words (w ∷ l) zero h = absurd (omega arith)
past_words (w ∷ l) (suc p) h = past_words l p (omega arith)

-- what a set of rows becomes at column j + 1 of the words cs
module _ (b : Bool) (cs : List ℕ) (j : ℕ) where
  -- a row past the first words stays, and so does every row where there is no such column
  narrowed-past : (used : ℕ) (Z : ℕ → Bool) (i : ℕ) → 64 * used < i → narrowed cs j b used Z i ≡ Z i
  unfolding narrowed
  narrowed-past used Z i h = rw (lt-leb i (64 * used) h, and-false)

  pub narrowed-outside : (used : ℕ) (Z : ℕ → Bool) → has_column cs (j + 1) ≡ false → narrowed cs j b used Z ≡ Z
  unfolding narrowed
  narrowed-outside used Z e = fun_ext (λ i. rw e)

  module _ (room : 16 * (j + 1) ≤ length cs) where
    -- a row in the first words is kept where its bit is b, and a row past them stays
    narrowed-in : (used : ℕ) (Z : ℕ → Bool) (i : ℕ) → i ≤ 64 * used → narrowed cs j b used Z i ≡ kept b Z (matrix_column cs (j + 1)) i
    unfolding narrowed has_column
    narrowed-in used Z i h = rw (le-leb 1 (j + 1) (omega arith), le-leb (16 * (j + 1)) (length cs) room, le-leb i (64 * used) h)

    -- where no row stands past the first words, all the rows kept
    pub narrowed-kept : (used : ℕ) (Z : ℕ → Bool) → NonePast used Z → narrowed cs j b used Z ≡ kept b Z (matrix_column cs (j + 1))
    narrowed-kept used Z past =
        fun_ext
        (λ i.
        by_cases (dec_le i (64 * used)) (narrowed-in used Z i)
        (λ s.
        let none = past i (omega arith) in
        narrowed-past used Z i (omega arith) ∙ none ∙ sym (kept_at b Z (matrix_column cs (j + 1)) i ∙ rw none)))

-- so it is for the rows Y that the loop leaves
pub narrowed-is : (b : Bool) (cs : List ℕ) (j used : ℕ) (Z Y : ℕ → Bool) → Y ≡ narrowed cs j b used Z → 16 * (j + 1) ≤ length cs → NonePast used Z → Y ≡ kept b Z (matrix_column cs (j + 1))
narrowed-is b cs j used Z Y e room past = e ∙ narrowed-kept b cs j room used Z past

-- the rows l at column j + 1 of the words cs
module _ (b : Bool) (l cs : List ℕ) (j : ℕ) where
  -- the rows whose bit there is b, and word p of them
  abbrev pub Kept : ℕ → Bool
  Kept = kept b (rows_of l) (matrix_column cs (j + 1))

  abbrev pub word : ℕ → ℕ
  word p = kept_word b (get_or l p 0) (get_or cs (16 * j + p) 0)

  -- a row that l has not is not kept
  pub kept-no : (i : ℕ) → rows_of l i ≡ false → Kept i ≡ false
  kept-no i e = kept_at b (rows_of l) (matrix_column cs (j + 1)) i ∙ rw e

  -- the first k words of r are those of the rows kept, and the others those of l
  pub record Narrowed (r : List ℕ) (k : ℕ) : Type 0 where
    pub most : k ≤ 16
    pub full : length r ≡ length l
    pub done : (p : ℕ) → p < k → get_or r p 0 ≡ word p
    pub rest : (p : ℕ) → k ≤ p → get_or r p 0 ≡ get_or l p 0

  pub narrowed_none : Narrowed l 0
  narrowed_none = record { most = omega arith; full = refl; done = λ p q. absurd (omega arith); rest = λ p q. refl }

  pub narrowed-more : (r : List ℕ) (k : ℕ) → k < 16 → k < length l → Narrowed r k → Narrowed (set r k (kept_word b (get_or r k 0) (get_or cs (16 * j + k) 0))) (k + 1)
  narrowed-more r k h g m =
      record {
        most = omega arith;
        full = length-set r k _ ∙ m.full;
        done = λ p q. ⊎_elim (λ e. rw e here) (λ o. get_or-set_other r k p _ 0 (λ e. omega arith) ∙ m.done p o) (eq-or-lt_of_le {n = p} {m = k} (omega arith));
        rest = λ p q. get_or-set_other r k p _ 0 (λ e. omega arith) ∙ m.rest p (omega arith);
      }
    where
      here : get_or (set r k (kept_word b (get_or r k 0) (get_or cs (16 * j + k) 0))) k 0 ≡ word k
      here = get_or-set_same r k _ 0 (omega (arith, m.full)) ∙ ap (λ a. kept_word b a (get_or cs (16 * j + k) 0)) (m.rest k (omega arith))

  module _ (room : 16 * (j + 1) ≤ length cs) where
    pub kept-inside : (i : ℕ) → 1 ≤ i → i ≤ size → Kept i ≡ bit (word ((i - 1) / 64)) ((i - 1) % 64)
    kept-inside i low high =
        let e : j + 1 - 1 ≡ j = omega arith in
        kept_at b (rows_of l) (matrix_column cs (j + 1)) i
        ∙ rw (component-inside (record { words = l }) i low high, bit-inside cs (j + 1) i (omega arith) room low high, e)
        (sym (kept-bit b (get_or l ((i - 1) / 64) 0) (get_or cs (16 * j + (i - 1) / 64) 0) ((i - 1) % 64) (omega arith)))

    pub kept_word_lem : (p t : ℕ) → p < 16 → t < 64 → Kept (64 * p + t + 1) ≡ bit (word p) t
    kept_word_lem p t hp ht =
        let e : (64 * p + t + 1 - 1) / 64 ≡ p = omega arith in
        let d : (64 * p + t + 1 - 1) % 64 ≡ t = omega arith in
        kept-inside (64 * p + t + 1) (omega arith) (omega arith) ∙ ap₂ (λ (a c : ℕ). bit (word a) c) e d

    -- a row that l has not does not come in
    narrowed-no : (used i : ℕ) → rows_of l i ≡ false → narrowed cs j b used (rows_of l) i ≡ false
    narrowed-no used i e =
        by_cases (dec_le i (64 * used)) (λ s. narrowed-in b cs j room used (rows_of l) i s ∙ kept-no i e)
        (λ s. narrowed-past b cs j used (rows_of l) i (omega arith) ∙ e)

    pub narrowed-all : (used : ℕ) (r : List ℕ) (k : ℕ) → k ≤ used → (k < used → k < 16 → length l ≤ k) → Narrowed r k → rows_of r ≡ narrowed cs j b used (rows_of l)
    narrowed-all used r k h g m =
        component-ext (record { words = r }) (narrowed cs j b used (rows_of l)) (λ i e. narrowed-no used i (component-outside (record { words = l }) i e))
        (λ p t hp ht.
        by_cases (dec_lt p k) (λ q. ap (λ w. bit w t) (m.done p q) ∙ sym (narrowed-in b cs j room used (rows_of l) (64 * p + t + 1) (omega arith) ∙ kept_word_lem p t hp ht))
        (λ o. ap (λ w. bit w t) (m.rest p (omega arith)) ∙ sym (component-at (record { words = l }) p t hp ht) ∙ sym (rest p t hp ht (omega arith))))
      where
        -- the rows in the words from k on: past the first words, or past the end of l
        rest : (p t : ℕ) → p < 16 → t < 64 → k ≤ p → narrowed cs j b used (rows_of l) (64 * p + t + 1) ≡ rows_of l (64 * p + t + 1)
        rest p t hp ht o =
            by_cases (dec_lt k used)
            (λ s.
            let none = component-at (record { words = l }) p t hp ht ∙ ap (λ w. bit w t) (past_words l p (omega (arith, g s (omega arith)))) ∙ bit-of-zero t in
            narrowed-no used (64 * p + t + 1) none ∙ sym none)
            (λ s. narrowed-past b cs j used (rows_of l) (64 * p + t + 1) (omega arith))
