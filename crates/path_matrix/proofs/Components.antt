-- A column written as it was (with_column-self), one component of a column set to 1 (put-stored), and a column written and one of its components then set to 1 (with_column-put).
-- Assumes nothing.
use Prim.Native.Nat.{ℕ, ◌+◌, ◌-◌, ◌*◌, ◌/◌, ◌%◌, ◌^◌, ◌<◌, ◌≤◌}
use mathlib.Core.Path.{◌≡◌, refl, sym, ap, ap₂, ◌∙◌, fun_ext}
use mathlib.Core.Bool.{Bool, true, false, ◌&&◌}
use mathlib.Core.List.{List, ◌++◌}
use mathlib.Core.Logic.{by_cases}
use native.Mathlib.Decide.{ℕ_discrete}
use native.Mathlib.Omega.{arith}
use lib.Bits.{bit_or, or_lt}
use lib.ListN.{length, get_or, take, drop, set, length-set, length-drop, take-append-drop}
use lib.Pow.{shl_exact}
use lib.Seq.{take-add, take_all, take-set-le, take-set-lt, drop-set-add, drop-set-lt, get_or-take, get_or-drop, get_or-set_same, get_or-set_other, length-take-le, paste}
use Rattle.rowset.specs.Sets.{up_to, both}
use Rattle.rowset.specs.Words.{column_words, column_words_from}
use Rattle.slice.specs.Slices.{size, component, written, SixteenWords}
use Rattle.slice.specs.declared.Slice.{Slice}
use Rattle.slice.proofs.Bits.{bit-set}
use Rattle.slice.proofs.Laws.{component-set}
use Rattle.slice.proofs.Sets.{up_to-inside}
use Rattle.path_matrix.specs.Matrix.{has_column, matrix_column, column_of, with_column}
use Rattle.path_matrix.proofs.Laws.{slice-words, has_column-bounds, matrix_column-inside, with_column-cases, with_column-outside, with_column-paste, with_column-same, length-with_column, take-with_column, drop-with_column}

-- words of 64 bits
abbrev pub Small : List ℕ → Type 0
Small l = (k : ℕ) → get_or l k 0 < 2 ^ 64

-- the words of a column as a slice
abbrev column_slice : List ℕ → ℕ → Slice
column_slice l j = record { words = column_of l j }

module _ (l : List ℕ) (j : ℕ) (low : 1 ≤ j) (high : column_words * j ≤ length l) where
  column-length : length (column_of l j) ≡ column_words
  unfolding column_of
  column-length = length-take-le column_words (drop (column_words * (j - 1)) l) (omega (arith, length-drop (column_words * (j - 1)) l))

  column-stored : Small l → SixteenWords (column_slice l j)
  unfolding column_of
  column-stored small =
      record {
        sixteen = column-length;
        fits = λ k h. rw (get_or-take column_words (drop (column_words * (j - 1)) l) k 0 h, get_or-drop (column_words * (j - 1)) l k 0) (small _);
      }

  -- its words are those of its components
  column-words : Small l → column_words_from (matrix_column l j) 0 column_words ≡ column_of l j
  column-words small =
      ap (λ (p : ℕ → Bool). column_words_from p 0 column_words) (matrix_column-inside l j low high)
      ∙ sym (slice-words (column_slice l j) (column-stored small))

-- a column that is written as it was changes nothing
pub with_column-self : (l : List ℕ) (j : ℕ) → Small l → with_column l j (matrix_column l j) ≡ l
unfolding column_of
with_column-self l j small = with_column-cases l j (matrix_column l j) (λ m. m ≡ l) refl kept
  where
    kept : 1 ≤ j → column_words * j ≤ length l → paste l (column_words * (j - 1)) (column_words_from (matrix_column l j) 0 column_words) column_words ≡ l
    kept low high =
        let start = column_words * (j - 1) in
        rw (column-words l j low high small, take_all column_words (column_of l j) (omega (arith, column-length l j low high)))
        (ap (λ (ws : List ℕ). ws ++ drop (start + column_words) l) (sym (take-add start column_words l)) ∙ take-append-drop (start + column_words) l)

-- 1 shifted by less than 64 does not wrap
mask : (k : ℕ) → k < 64 → (1 * 2 ^ k) % 2 ^ 64 ≡ 2 ^ k
mask k h = shl_exact 1 k 64 (omega arith) (omega arith) ∙ omega arith

-- the word of component i of column j with its bit set
abbrev pub with_bit : List ℕ → ℕ → ℕ → List ℕ
with_bit l j i =
    set l (column_words * (j - 1) + (i - 1) / 64) (bit_or (get_or l (column_words * (j - 1) + (i - 1) / 64) 0) ((1 * 2 ^ ((i - 1) % 64)) % 2 ^ 64))

module _ (l : List ℕ) (small : Small l) (j i : ℕ) (low : 1 ≤ j) (high : column_words * j ≤ length l) (first : 1 ≤ i) (last : i ≤ size) where
  abbrev start : ℕ
  start = column_words * (j - 1)

  abbrev word : ℕ
  word = (i - 1) / 64

  abbrev w : ℕ
  w = bit_or (get_or l (start + word) 0) ((1 * 2 ^ ((i - 1) % 64)) % 2 ^ 64)

  small_word : w < 2 ^ 64
  small_word = or_lt 64 _ _ (small _) (omega arith)

  small-after : Small (with_bit l j i)
  small-after k = by_cases (ℕ_discrete k (start + word)) here (λ n. rw (get_or-set_other l (start + word) k w 0 n) (small k))
    where
      here : k ≡ start + word → get_or (with_bit l j i) k 0 < 2 ^ 64
      here e = rw (e, get_or-set_same l (start + word) w 0 (omega arith)) small_word

  column-after : column_of (with_bit l j i) j ≡ set (column_of l j) word w
  unfolding column_of
  column-after = ap (take column_words) (drop-set-add start l word w) ∙ take-set-lt column_words (drop start l) word w (omega arith)

  same : get_or (column_of l j) word 0 ≡ get_or l (start + word) 0
  unfolding column_of
  same = get_or-take column_words (drop start l) word 0 (omega arith) ∙ get_or-drop start l word 0

  high_after : column_words * j ≤ length (with_bit l j i)
  high_after = omega (arith, length-set l (start + word) w)

  component-after : matrix_column (with_bit l j i) j ≡ written (matrix_column l j) i true
  component-after =
      matrix_column-inside (with_bit l j i) j low high_after
      ∙ ap (λ (ws : List ℕ). component (record { words = ws })) column-after
      ∙ component-set (column_slice l j) i true w (column-length l j low high) (up_to-inside size i first last)
      (λ b h. rw (same, mask ((i - 1) % 64) (omega arith)) (bit-set _ _ b))
      ∙ ap (λ (p : ℕ → Bool). written p i true) (sym (matrix_column-inside l j low high))

  -- a component set to 1 by its word
  pub put-stored : with_bit l j i ≡ with_column l j (written (matrix_column l j) i true)
  put-stored =
      let p = written (matrix_column l j) i true in
      sym (with_column-self (with_bit l j i) j small-after)
      ∙ ap (with_column (with_bit l j i) j) component-after
      ∙ with_column-paste (with_bit l j i) j low high_after p
      ∙ ap₂ (λ (a b : List ℕ). a ++ take column_words (column_words_from p 0 column_words) ++ b) (take-set-le start l (start + word) w (omega arith)) (drop-set-lt (start + column_words) l (start + word) w (omega arith))
      ∙ sym (with_column-paste l j low high p)

-- of a column written twice the last stays
with_column-again : (l : List ℕ) (j : ℕ) (p q : ℕ → Bool) → 1 ≤ j → column_words * j ≤ length l → with_column (with_column l j p) j q ≡ with_column l j q
with_column-again l j p q low high =
    let start = column_words * (j - 1) in
    let end : start + column_words ≡ column_words * j = omega arith in
    with_column-paste (with_column l j p) j low (omega (arith, length-with_column l j p)) q
    ∙ ap₂ (λ (a b : List ℕ). a ++ take column_words (column_words_from q 0 column_words) ++ b) (take-with_column l j p (j - 1) (omega arith)) (rw end (drop-with_column l j p j (omega arith)))
    ∙ sym (with_column-paste l j low high q)

-- a column has no component outside 1 to 1,024
matrix_column-rows : (l : List ℕ) (j : ℕ) → both (up_to size) (matrix_column l j) ≡ matrix_column l j
unfolding both matrix_column
matrix_column-rows l j = fun_ext (λ i. go (up_to size i) (has_column l j) _)
  where
    go : (a b d : Bool) → (a && (b && (a && d))) ≡ (b && (a && d))
    go true b d = refl
    go false true d = refl
    go false false d = refl

-- column k written as column j, and then component i of column j set to 1
pub with_column-put : (l : List ℕ) (j k i : ℕ) → let m = with_column l j (matrix_column l k) in with_column m j (written (matrix_column m j) i true) ≡ with_column l j (written (matrix_column l k) i true)
with_column-put l j k i = go (has_column l j) refl
  where
    m : List ℕ
    m = with_column l j (matrix_column l k)

    go : (b : Bool) → has_column l j ≡ b → with_column m j (written (matrix_column m j) i true) ≡ with_column l j (written (matrix_column l k) i true)
    go false e = rw (with_column-outside l j (matrix_column l k) e) (with_column-outside l j _ e ∙ sym (with_column-outside l j _ e))
    go true e =
        let bounds = has_column-bounds l j e in
        with_column-again l j (matrix_column l k) _ bounds.0 bounds.1
        ∙ ap (λ (p : ℕ → Bool). with_column l j (written p i true)) (with_column-same l j (matrix_column l k) bounds.0 bounds.1 ∙ matrix_column-rows l k)
