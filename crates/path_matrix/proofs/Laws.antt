-- Laws of the path matrix: the bits of a word made from a set, the words of a column, what a column reads after one is written, and when all columns together are a matrix.
-- Assumes nothing.
use Prim.Native.Nat.{ℕ, zero, suc, ◌+◌, ◌-◌, ◌*◌, ◌/◌, ◌%◌, ◌^◌, ◌<◌, ◌≤◌}
use mathlib.Core.Path.{◌≡◌, refl, sym, ap, ap₂, ◌∙◌, fun_ext}
use mathlib.Core.Bool.{Bool, true, false, cond, ◌&&◌, and-false, and-eq-true_iff}
use mathlib.Core.List.{List, [], ◌∷◌, ◌++◌, append_assoc}
use mathlib.Core.Logic.{⊎_elim, by_cases}
use native.Mathlib.Decide.{dec_le}
use native.Mathlib.Nat.{pow-suc, eq-or-lt_of_le}
use native.Mathlib.Omega.{arith}
use lib.Dec.{leb, eqb}
use lib.ListN.{length, get_or, take, drop, length-append}
use lib.Arith.{lt_of_le-ne}
use lib.Seq.{ext_get_or, take-add, take-nil, take-append-le, take_at, drop_at, drop-drop, take-take, get_or-take, get_or-drop, length-take-le, paste, drop-paste, length-paste, take_all}
use borrow.Author.Tests.{le-leb, lt-leb, leb-true, eq-eqb, ne_eqb}
use Rattle.rowset.specs.Sets.{empty, up_to, both}
use Rattle.rowset.specs.Words.{column_words, word_at, column_words_from, matrix_words}
use Rattle.slice.specs.Slices.{size, bit, component, SixteenWords}
use Rattle.path_matrix.specs.Matrix.{has_column, matrix_column, column_of, with_column}
use Rattle.slice.specs.declared.Slice.{Slice}
use Rattle.slice.proofs.Bits.{bit-zero, bit-suc, same_bits}
use Rattle.slice.proofs.Laws.{component-at, component-ext}
use Rattle.slice.proofs.Sets.{up_to-inside, up_to-bounds}

-- a digit and twice a number: its half, and its lowest bit
digit-half : (t : Bool) (w : ℕ) → (cond t 1 0 + 2 * w) / 2 ≡ w
digit-half true w = omega arith
digit-half false w = omega arith

digit_low : (t : Bool) (w : ℕ) → eqb ((cond t 1 0 + 2 * w) % 2) 1 ≡ t
digit_low true w = eq-eqb ((1 + 2 * w) % 2) 1 (omega arith)
digit_low false w = ne_eqb ((0 + 2 * w) % 2) 1 (λ e. omega arith)

-- bit b of the word after position i is position i + b + 1
pub word_at-bit : (p : ℕ → Bool) (i k b : ℕ) → b < k → bit (word_at p i k) b ≡ p (i + b + 1)
unfolding word_at
word_at-bit p i zero b h = absurd (omega arith)
word_at-bit p i (suc k) zero h =
    let at : suc i ≡ i + 0 + 1 = omega arith in
    bit-zero (word_at p i (suc k)) ∙ digit_low (p (suc i)) (word_at p (suc i) k) ∙ ap p at
word_at-bit p i (suc k) (suc b) h =
    let at : suc i + b + 1 ≡ i + suc b + 1 = omega arith in
    bit-suc (word_at p i (suc k)) b
    ∙ ap (λ (w : ℕ). bit w b) (digit-half (p (suc i)) (word_at p (suc i) k))
    ∙ word_at-bit p (suc i) k b (omega arith)
    ∙ ap p at

digit-small : (t : Bool) → cond t 1 0 < 2
digit-small true = omega arith
digit-small false = omega arith

-- a word of k bits is below 2 ^ k
pub word_at-bound : (p : ℕ → Bool) (i k : ℕ) → word_at p i k < 2 ^ k
unfolding word_at
word_at-bound p i zero = omega arith
word_at-bound p i (suc k) = omega (arith, digit-small (p (suc i)), word_at-bound p (suc i) k, pow-suc 2 k)

-- the number of words, and each word
pub length-words_from : (p : ℕ → Bool) (q k : ℕ) → length (column_words_from p q k) ≡ k
unfolding column_words_from
length-words_from p q zero = refl
length-words_from p q (suc k) = ap suc (length-words_from p (suc q) k)

pub get_d-words_from : (p : ℕ → Bool) (q k i : ℕ) → i < k → get_or (column_words_from p q k) i 0 ≡ word_at p (64 * (q + i)) 64
unfolding column_words_from
get_d-words_from p q zero i h = absurd (omega arith)
get_d-words_from p q (suc k) zero h = ap (λ (n : ℕ). word_at p n 64) (omega arith)
get_d-words_from p q (suc k) (suc i) h = get_d-words_from p (suc q) k i (omega arith) ∙ ap (λ (n : ℕ). word_at p n 64) (omega arith)

pub length-matrix_words : (C : ℕ → ℕ → Bool) (n : ℕ) → length (matrix_words C n) ≡ column_words * n
unfolding matrix_words
length-matrix_words C zero = refl
length-matrix_words C (suc n) =
    omega (arith, length-append (matrix_words C n) (column_words_from (C (suc n)) 0 column_words), length-matrix_words C n, length-words_from (C (suc n)) 0 column_words)

-- the words of a slice are those of its components
pub slice-words : (x : Slice) → SixteenWords x → x.words ≡ column_words_from (component x) 0 column_words
slice-words x s = ext_get_or 0 x.words (column_words_from (component x) 0 column_words) (s.sixteen ∙ sym (length-words_from (component x) 0 column_words)) same
  where
    same : (k : ℕ) → k < length x.words → get_or x.words k 0 ≡ get_or (column_words_from (component x) 0 column_words) k 0
    same k h =
        same_bits 64 (get_or x.words k 0) (word_at (component x) (64 * (0 + k)) 64) (s.fits k (omega arith)) (word_at-bound (component x) (64 * (0 + k)) 64)
        (λ b l. sym (component-at x k b (omega arith) l) ∙ ap (component x) (omega arith) ∙ sym (word_at-bit (component x) (64 * (0 + k)) 64 b l))
        ∙ sym (get_d-words_from (component x) 0 column_words k (omega arith))

-- a slice whose words are those of p has the components of p that lie in 1 to 1,024
pub component-words : (p : ℕ → Bool) → component (record { words = column_words_from p 0 column_words }) ≡ both (up_to size) p
unfolding both
component-words p = component-ext (record { words = column_words_from p 0 column_words }) (both (up_to size) p) (λ i e. ap (λ (b : Bool). b && p i) e) inside
  where
    inside : (k j : ℕ) → k < 16 → j < 64 → bit (get_or (column_words_from p 0 column_words) k 0) j ≡ (up_to size (64 * k + j + 1) && p (64 * k + j + 1))
    inside k j hk hj =
        let at : 64 * (0 + k) + j + 1 ≡ 64 * k + j + 1 = omega arith in
        ap (λ (w : ℕ). bit w j) (get_d-words_from p 0 column_words k hk)
        ∙ word_at-bit p (64 * (0 + k)) 64 j hj
        ∙ ap p at
        ∙ ap (λ (b : Bool). b && p (64 * k + j + 1)) (sym (up_to-inside size (64 * k + j + 1) (omega arith) (omega arith)))

-- where a column lies inside the words, and where it does not
pub has_column-inside : (l : List ℕ) (j : ℕ) → 1 ≤ j → column_words * j ≤ length l → has_column l j ≡ true
unfolding has_column
has_column-inside l j low high = ap₂ ◌&&◌ (le-leb 1 j low) (le-leb (column_words * j) (length l) high)

pub has_column-below : (l : List ℕ) (j : ℕ) → j < 1 → has_column l j ≡ false
unfolding has_column
has_column-below l j h = ap (λ (b : Bool). b && leb (column_words * j) (length l)) (lt-leb 1 j h)

pub has_column-above : (l : List ℕ) (j : ℕ) → length l < column_words * j → has_column l j ≡ false
unfolding has_column
has_column-above l j h = ap (λ (b : Bool). leb 1 j && b) (lt-leb (column_words * j) (length l) h) ∙ and-false (leb 1 j)

pub has_column-bounds : (l : List ℕ) (j : ℕ) → has_column l j ≡ true → (1 ≤ j) × (column_words * j ≤ length l)
unfolding has_column
has_column-bounds l j e =
    let h = (and-eq-true_iff (leb 1 j) (leb (column_words * j) (length l))).0 e in
    (leb-true 1 j h.0, leb-true (column_words * j) (length l) h.1)

-- a column that is not inside reads empty, and writing it changes nothing
pub matrix_column-outside : (l : List ℕ) (j : ℕ) → has_column l j ≡ false → matrix_column l j ≡ empty
unfolding matrix_column empty
matrix_column-outside l j e = fun_ext (λ i. rw e)

pub with_column-outside : (l : List ℕ) (j : ℕ) (p : ℕ → Bool) → has_column l j ≡ false → with_column l j p ≡ l
unfolding with_column
with_column-outside l j p e = rw e

module _ (l : List ℕ) (j : ℕ) (low : 1 ≤ j) (high : column_words * j ≤ length l) where
  -- a column inside is the slice of its words
  pub matrix_column-inside : matrix_column l j ≡ component (record { words = column_of l j })
  unfolding matrix_column component column_of
  matrix_column-inside = fun_ext (λ i. rw (has_column-inside l j low high) (go i (up_to size i) refl))
    where
      go : (i : ℕ) (b : Bool) → up_to size i ≡ b → (b && bit (get_or l (column_words * (j - 1) + (i - 1) / 64) 0) ((i - 1) % 64)) ≡ (b && bit (get_or (column_of l j) ((i - 1) / 64) 0) ((i - 1) % 64))
      go i true e =
          let bounds = up_to-bounds size i e in
          let small : (i - 1) / 64 < 16 = omega arith in
          ap (λ (w : ℕ). bit w ((i - 1) % 64)) (sym (get_or-take column_words (drop (column_words * (j - 1)) l) ((i - 1) / 64) 0 small ∙ get_or-drop (column_words * (j - 1)) l ((i - 1) / 64) 0))
      go i false e = refl

  -- a column whose words are those of p holds p
  pub matrix_column-words : (p : ℕ → Bool) → column_of l j ≡ column_words_from p 0 column_words → matrix_column l j ≡ both (up_to size) p
  matrix_column-words p e = matrix_column-inside ∙ ap (λ (ws : List ℕ). component (record { words = ws })) e ∙ component-words p

  -- writing a column is a copy of its words
  pub with_column-paste : (p : ℕ → Bool) → with_column l j p ≡ paste l (column_words * (j - 1)) (column_words_from p 0 column_words) column_words
  unfolding with_column
  with_column-paste p =
      let end : column_words * j ≡ column_words * (j - 1) + column_words = omega arith in
      rw (has_column-inside l j low high)
      (ap₂ (λ (ws : List ℕ) (n : ℕ). take (column_words * (j - 1)) l ++ ws ++ drop n l) (sym (take_all column_words (column_words_from p 0 column_words) (omega (arith, length-words_from p 0 column_words)))) end)

  -- the words of the column written
  pub column_of-same : (p : ℕ → Bool) → column_of (with_column l j p) j ≡ column_words_from p 0 column_words
  unfolding column_of with_column
  column_of-same p =
      rw (has_column-inside l j low high, append_assoc, drop_at _ _ (column_words * (j - 1)) (length-take-le (column_words * (j - 1)) l (omega arith)))
      (take_at (column_words_from p 0 column_words) (drop (column_words * j) l) column_words (length-words_from p 0 column_words))

module _ (l : List ℕ) (j : ℕ) (p : ℕ → Bool) where
  -- what holds of the words as they are, and of those with the column stored where it is inside, holds after a column is written
  pub with_column-cases : (P : List ℕ → Type 0) → P l
      → (1 ≤ j → column_words * j ≤ length l → P (paste l (column_words * (j - 1)) (column_words_from p 0 column_words) column_words)) → P (with_column l j p)
  with_column-cases P kept stored = go (has_column l j) refl
    where
      go : (b : Bool) → has_column l j ≡ b → P (with_column l j p)
      go false e = rw (with_column-outside l j p e) kept
      go true e =
          let bounds = has_column-bounds l j e in
          rw (with_column-paste l j bounds.0 bounds.1 p) (stored bounds.0 bounds.1)

  -- writing a column keeps the length, the words before it, and the words after it
  pub length-with_column : length (with_column l j p) ≡ length l
  length-with_column =
      with_column-cases (λ m. length m ≡ length l) refl
      (λ low high.
      length-paste l (column_words * (j - 1)) (column_words_from p 0 column_words) column_words (omega arith) (omega (arith, length-words_from p 0 column_words)))

  pub take-with_column : (n : ℕ) → n < j → take (column_words * n) (with_column l j p) ≡ take (column_words * n) l
  take-with_column n h =
      with_column-cases (λ m. take (column_words * n) m ≡ take (column_words * n) l) refl
      (λ low high.
      let before : column_words * n ≤ length (take (column_words * (j - 1)) l) = omega (arith, length-take-le (column_words * (j - 1)) l (omega arith)) in
      rw (append_assoc, take-append-le) (take-take (column_words * n) (column_words * (j - 1)) l (omega arith)))

  pub drop-with_column : (n : ℕ) → j ≤ n → drop (column_words * n) (with_column l j p) ≡ drop (column_words * n) l
  drop-with_column n h =
      with_column-cases (λ m. drop (column_words * n) m ≡ drop (column_words * n) l) refl
      (λ low high.
      let end = column_words * (j - 1) + column_words in
      let from : column_words * n ≡ end + (column_words * n - end) = omega arith in
      rw from
      (sym (drop-drop (column_words * n - end) end _)
      ∙ ap (drop (column_words * n - end))
      (drop-paste l (column_words * (j - 1)) (column_words_from p 0 column_words) column_words (omega arith) (omega (arith, length-words_from p 0 column_words)))
      ∙ drop-drop (column_words * n - end) end l))

-- n elements from index a on are the end of the first a + n
take-drop : (a n : ℕ) (l : List ℕ) → take n (drop a l) ≡ drop a (take (a + n) l)
take-drop zero n l = let none : n ≡ 0 + n = omega arith in ap (λ (k : ℕ). take k l) none
take-drop (suc a) n [] = take-nil n ∙ ap (drop (suc a)) (sym (take-nil (suc a + n)))
take-drop (suc a) n (x ∷ l) =
    let one : suc (a + n) ≡ suc a + n = omega arith in
    take-drop a n l ∙ ap (λ (k : ℕ). drop (suc a) (take k (x ∷ l))) one

-- the other columns stay
pub column_of-other : (l : List ℕ) (j : ℕ) (p : ℕ → Bool) (k : ℕ) → 1 ≤ k → (k ≡ j → ⊥) → column_of (with_column l j p) k ≡ column_of l k
unfolding column_of
column_of-other l j p k low apart = by_cases (dec_le k j) before after
  where
    before : k ≤ j → column_of (with_column l j p) k ≡ column_of l k
    before h =
        let end : column_words * (k - 1) + column_words ≡ column_words * k = omega arith in
        let part : (m : List ℕ) → column_of m k ≡ drop (column_words * (k - 1)) (take (column_words * k) m) =
        λ m. take-drop (column_words * (k - 1)) column_words m ∙ ap (λ (e : ℕ). drop (column_words * (k - 1)) (take e m)) end in
        part (with_column l j p) ∙ ap (drop (column_words * (k - 1))) (take-with_column l j p k (lt_of_le-ne h apart)) ∙ sym (part l)

    after : (k ≤ j → ⊥) → column_of (with_column l j p) k ≡ column_of l k
    after h = ap (take column_words) (drop-with_column l j p (k - 1) (omega (arith, h)))

-- what a column reads after a column is written
pub with_column-same : (l : List ℕ) (j : ℕ) (p : ℕ → Bool) → 1 ≤ j → column_words * j ≤ length l → matrix_column (with_column l j p) j ≡ both (up_to size) p
with_column-same l j p low high = matrix_column-words (with_column l j p) j low (omega (arith, length-with_column l j p)) p (column_of-same l j low high p)

pub with_column-other : (l : List ℕ) (j : ℕ) (p : ℕ → Bool) (k : ℕ) → (k ≡ j → ⊥) → matrix_column (with_column l j p) k ≡ matrix_column l k
unfolding has_column
with_column-other l j p k apart = go (has_column l k) refl
  where
    same : has_column (with_column l j p) k ≡ has_column l k
    same = ap (λ (n : ℕ). leb 1 k && leb (column_words * k) n) (length-with_column l j p)

    go : (b : Bool) → has_column l k ≡ b → matrix_column (with_column l j p) k ≡ matrix_column l k
    go false e = matrix_column-outside (with_column l j p) k (same ∙ e) ∙ sym (matrix_column-outside l k e)
    go true e =
        let bounds = has_column-bounds l k e in
        matrix_column-inside (with_column l j p) k bounds.0 (omega (arith, length-with_column l j p))
        ∙ ap (λ (ws : List ℕ). component (record { words = ws })) (column_of-other l j p k bounds.0 apart)
        ∙ sym (matrix_column-inside l k bounds.0 bounds.1)

-- the words of column j of a matrix
pub column_of-matrix_words : (C : ℕ → ℕ → Bool) (n j : ℕ) (rest : List ℕ) → 1 ≤ j → j ≤ n → column_of (matrix_words C n ++ rest) j ≡ column_words_from (C j) 0 column_words
unfolding matrix_words column_of
column_of-matrix_words C zero j rest low h = absurd (omega arith)
column_of-matrix_words C (suc n) j rest low h =
    rw append_assoc (⊎_elim last (λ l. column_of-matrix_words C n j _ low (omega arith)) (eq-or-lt_of_le h))
  where
    last : j ≡ suc n → column_of (matrix_words C n ++ (column_words_from (C (suc n)) 0 column_words ++ rest)) j ≡ column_words_from (C j) 0 column_words
    last e =
        let start : column_words * (suc n - 1) ≡ column_words * n = omega arith in
        rw (e, start, drop_at (matrix_words C n) _ (column_words * n) (length-matrix_words C n))
        (take_at (column_words_from (C (suc n)) 0 column_words) rest column_words (length-words_from (C (suc n)) 0 column_words))

pub matrix-column : (C : ℕ → ℕ → Bool) (n j : ℕ) (rest : List ℕ) → 1 ≤ j → j ≤ n → matrix_column (matrix_words C n ++ rest) j ≡ both (up_to size) (C j)
matrix-column C n j rest low h =
    matrix_column-words (matrix_words C n ++ rest) j low (omega (arith, length-append (matrix_words C n) rest, length-matrix_words C n)) (C j)
    (column_of-matrix_words C n j rest low h)

-- Words whose columns 1 to n are those of C begin with the matrix of C.
pub columns-whole : (C : ℕ → ℕ → Bool) (n : ℕ) (l : List ℕ)
    → ((j : ℕ) → 1 ≤ j → j ≤ n → column_of l j ≡ column_words_from (C j) 0 column_words) → take (column_words * n) l ≡ matrix_words C n
unfolding matrix_words column_of
columns-whole C zero l h = refl
columns-whole C (suc n) l h =
    let more : column_words * suc n ≡ column_words * n + column_words = omega arith in
    let start : column_words * n ≡ column_words * (suc n - 1) = omega arith in
    rw (more, take-add)
    (ap₂ ◌++◌ (columns-whole C n l (λ j low g. h j low (omega arith))) (ap (λ (a : ℕ). take column_words (drop a l)) start ∙ h (suc n) (omega arith) (omega arith)))
