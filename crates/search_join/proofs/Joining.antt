-- MATCH joined to a slice in place: words copied over words of 0 have the rows of those words (copied); words joined with or tell whether there is a row (Joined);
-- and the rows that come are those that equal w (found), none where w is too large for the columns (found_none). Assumes nothing.
use Prim.Native.Nat.{ℕ, zero, suc, ◌+◌, ◌-◌, ◌*◌, ◌/◌, ◌%◌, ◌^◌, ◌≤◌, ◌<◌}
use native.Mathlib.Decide.{dec_le, dec_lt}
use native.Mathlib.Nat.{eq-or-lt_of_le}
use native.Mathlib.Omega.{arith}
use mathlib.Core.Bool.{Bool, true, false, cond, ◌&&◌, or-false, and-false, and-eq-true_iff}
use mathlib.Core.List.{List, ◌++◌}
use mathlib.Core.Logic.{⊎_elim, by_cases}
use mathlib.Core.Path.{◌≡◌, refl, sym, ap, ap₂, ◌∙◌, fun_ext}
use lib.Bits.{bit_or, or_zero_l, or_add_and, and_le_l, and_le_r}
use lib.Count.{count_trailing_zeros}
use lib.Dec.{eqb, ltb}
use lib.ListN.{length, get_or, take, drop, replicate, length-take}
use Rattle.std.proofs.lemmas.List.{get_or_append_left, get_or-append_right, get_or-take, get_or-drop, get_or-replicate}
use borrow.Author.Tests.{eqb-true, eqb-false, le-leb, lt-leb, le-ltb, lt-ltb}
use Rattle.rowset.specs.Columns.{in_columns}
use Rattle.rowset.specs.Counts.{equal_right, read_within}
use Rattle.rowset.specs.Searches.{equal_to}
use Rattle.rowset.specs.Sets.{any, both, up_to, empty, either}
use Rattle.rowset.specs.Words.{in_words}
use Rattle.rowset.proofs.Laws.{any_some, none_any, both-subset, clash}
use Rattle.slice.specs.Slices.{size, bit, component}
use Rattle.slice.specs.declared.Slice.{Slice}
use Rattle.slice.proofs.Bits.{bit-at-trailing, bit-of-zero}
use Rattle.slice.proofs.Laws.{component-at, component-inside, component-outside, component-ext}
use Rattle.slice.proofs.Sets.{up_to-inside, up_to-above, up_to-bounds}
use Rattle.slice_words.proofs.Laws.{words-component}
use Rattle.search_columns.specs.Steps.Column.{kept}
use Rattle.search_columns.proofs.Loops.{digit}
use Rattle.search_columns.proofs.Steps.{match-start, match-start-none}
use Rattle.search_columns.specs.Steps.Rows.{rows_of, NonePast}
use Rattle.search_join.specs.Steps.Ends.{ends_in, first_words, words_taken, words_for, EachEnd}
use Rattle.search_match.proofs.Counts.{Right, right-more, right-from}

-- the first n words of r, copied over words of 0, have the rows of those words
pub copied : (n : ℕ) (s r : List ℕ) → n ≤ 16 → length r ≡ 16 → s ≡ take n r → rows_of (s ++ drop n (replicate 16 0)) ≡ first_words n (rows_of r)
unfolding both
copied n s r few full e =
    component-ext (record { words = s ++ drop n (replicate 16 0) }) (first_words n (rows_of r)) (λ i o. rw (component-outside (record { words = r }) i o, and-false))
    (λ p j hp hj.
    by_cases (dec_lt p n)
    (λ q.
    ap (λ (w : ℕ). bit w j) (get_or_append_left s _ 0 p (omega (arith, long)) ∙ ap (λ (l : List ℕ). get_or l p 0) e ∙ get_or-take n r p 0 q)
    ∙ sym (rw (up_to-inside (64 * n) (64 * p + j + 1) (omega arith) (omega arith)) (component-at (record { words = r }) p j hp hj)))
    (λ o.
    ap (λ (w : ℕ). bit w j) (get_or-append_right s _ n p 0 long (omega arith) ∙ get_or-drop n (replicate 16 0) (p - n) 0 ∙ get_or-replicate 16 (n + (p - n)) 0 0 (omega arith))
    ∙ bit-of-zero j ∙ sym (rw (up_to-above (64 * n) (64 * p + j + 1) (omega arith)))))
  where
    long : length s ≡ n
    long = ap length e ∙ simp length-take (omega arith)

-- what the first k words, joined with or, say of the rows l
pub record Joined (l : List ℕ) (w k : ℕ) : Type 0 where
  pub none : w ≡ 0 → (p : ℕ) → p < k → get_or l p 0 ≡ 0
  pub some : 0 < w → any size (rows_of l) ≡ true

module _ (l : List ℕ) where
  pub joined-none : Joined l 0 0
  joined-none = record { none = λ e p q. absurd (omega arith); some = λ h. absurd (omega arith) }

  -- a word that is not 0 has a row
  word-found : (p : ℕ) → p < 16 → 0 < get_or l p 0 → get_or l p 0 < 2 ^ 64 → any size (rows_of l) ≡ true
  word-found p h some fits =
      let t = count_trailing_zeros 64 (get_or l p 0) in
      let at = bit-at-trailing 64 (get_or l p 0) some fits in
      any_some size (64 * p + t + 1) (rows_of l) (omega arith) (omega arith) (component-at (record { words = l }) p t h at.0 ∙ at.1)

  pub joined-more : (w k : ℕ) → k < 16 → get_or l k 0 < 2 ^ 64 → Joined l w k → Joined l (bit_or w (get_or l k 0)) (k + 1)
  joined-more w k h fits m =
      record {
        none = λ e p q.
            ⊎_elim (λ d. rw d (omega (arith, or_add_and w (get_or l k 0), and_le_l w (get_or l k 0), e)))
            (λ u. m.none (omega (arith, or_add_and w (get_or l k 0), and_le_r w (get_or l k 0), e)) p u) (eq-or-lt_of_le {n = p} {m = k} (omega arith));
        some = go w refl;
      }
    where
      go : (v : ℕ) → w ≡ v → 0 < bit_or w (get_or l k 0) → any size (rows_of l) ≡ true
      go zero e some = word-found k h (omega (arith, ap (λ a. bit_or a (get_or l k 0)) e ∙ or_zero_l (get_or l k 0))) fits
      go (suc v) e some = m.some (omega arith)

-- where the first words are 0 and no row stands past them, there is none
pub none_at_all : (l : List ℕ) (used : ℕ) → used ≤ 16 → NonePast used (rows_of l) → ((p : ℕ) → p < used → get_or l p 0 ≡ 0) → any size (rows_of l) ≡ false
none_at_all l used h past z =
    none_any size (rows_of l)
    (λ i low high.
    by_cases (dec_lt ((i - 1) / 64) used)
    (λ q. component-inside (record { words = l }) i low high ∙ ap (λ a. bit a ((i - 1) % 64)) (z ((i - 1) / 64) q) ∙ bit-of-zero ((i - 1) % 64))
    (λ o. past i (omega arith)))

-- the rows in the running at one more column, where column j + 1 is the next one to the left
pub right-next : (c : ℕ → ℕ → Bool) (w : ℕ) (x : Slice) (n : ℕ) (z z' : Slice) (k : ℕ) → k < n → any size (component z) ≡ true
    → component z' ≡ kept (digit (w / 2 ^ k)) (component z) (c (32 - 1 - k + 1))
    → Right c w x n z k
    → Right c w x n z' (k + 1)
right-next c w x n z z' k h some e m =
    let at : 32 - 1 - k + 1 ≡ 32 - k = omega (arith, m.most) in
    right-more c w x n z z' k h some (rw at at e) m

module _ (used : ℕ) where
  -- where no row stands past the first words, none that MATCH gives does
  pub right-past : (c : ℕ → ℕ → Bool) (w k : ℕ) (X Y : ℕ → Bool) → Y ≡ equal_right c w k X → NonePast used X → NonePast used Y
  unfolding equal_right equal_to
  right-past c w k X Y e past i h = rw (e, past i h)

  -- no row of the first words stands past them
  pub first_past : (P Y : ℕ → Bool) → Y ≡ first_words used P → NonePast used Y
  unfolding both
  first_past P Y e i h = rw (e, up_to-above (64 * used) i h)

module _ (c : ℕ → ℕ → Bool) (w : ℕ) where
  -- the rows Y that MATCH gives of Z, which has those of X, joined to U
  pub right-joined : {Z Y W : ℕ → Bool} (k : ℕ) (U X : ℕ → Bool) → Z ≡ X → Y ≡ equal_right c w k Z → W ≡ either U Y → W ≡ either U (equal_right c w k X)
  right-joined k U X e d h = h ∙ ap (either U) (d ∙ ap (equal_right c w k) e)

  -- the columns that are read for the same rows
  pub read_same : {Z : ℕ → Bool} (n r : ℕ) (X : ℕ → Bool) → Z ≡ X → r ≡ read_within n size c w Z → r ≡ read_within n size c w X
  read_same n r X e h = h ∙ ap (read_within n size c w) e

  right-empty : (k : ℕ) → equal_right c w k empty ≡ empty
  unfolding equal_right equal_to empty
  right-empty k = refl

  either-empty : (X : ℕ → Bool) → either X empty ≡ X
  unfolding either empty
  either-empty X = fun_ext (λ i. or-false (X i))

  module _ (first n : ℕ) (x l : List ℕ) (b : Bool) (fits : b ≡ eqb (w / 2 ^ (32 - first)) 0) where
    words-first : first_words n (rows_of l) ≡ first_words n (in_words l)
    words-first = ap (first_words n) (sym (words-component l))

    -- the rows in the first words of l that equal w in the columns after the first ones, joined to x, where w has no digit before those of the columns, and the columns that are read
    pub found : (r : List ℕ) (m : ℕ) → b ≡ true → rows_of r ≡ either (rows_of x) (equal_right c w (32 - first) (first_words n (rows_of l))) → length r ≡ 16
        → m ≡ read_within (32 - first) size c w (first_words n (rows_of l))
        → (in_words r ≡ either (in_words x) (equal_to (in_columns c first (32 - first)) w (first_words n (in_words l))))
        × ((length r ≡ 16) × (m ≡ cond (eqb (w / 2 ^ (32 - first)) 0) (read_within (32 - first) size c w (first_words n (in_words l))) 0))
    found r m t e full read = (
      words-component r ∙ e
          ∙ ap₂ either (sym (words-component x))
          (ap (equal_right c w (32 - first)) (words-first ∙ sym (match-start _ _ (eqb-true _ _ (sym fits ∙ t)))) ∙ right-from c w first (first_words n (in_words l))),
      (full, rw (← fits, t) (read ∙ ap (read_within (32 - first) size c w) words-first)),
    )

    -- and where it has one, there is none, and no column is read
    pub found_none : b ≡ false → length x ≡ 16
        → (in_words x ≡ either (in_words x) (equal_to (in_columns c first (32 - first)) w (first_words n (in_words l))))
        × ((length x ≡ 16) × (0 ≡ cond (eqb (w / 2 ^ (32 - first)) 0) (read_within (32 - first) size c w (first_words n (in_words l))) 0))
    found_none f full = (sym (ap (either (in_words x)) none ∙ either-empty _), (full, rw (← fits, f)))
      where
        none : equal_to (in_columns c first (32 - first)) w (first_words n (in_words l)) ≡ empty
        none =
            sym (right-from c w first (first_words n (in_words l)))
            ∙ ap (equal_right c w (32 - first)) (match-start-none _ _ (eqb-false _ _ (sym fits ∙ f))) ∙ right-empty (32 - first)

-- ── The words in which MATCH looks ──

module _ (n : ℕ) where
  -- what the functions of one, four and sixteen words look through
  pub taken-one : n ≤ 1 → words_taken n ≡ 1
  unfolding words_taken
  taken-one h = rw (le-leb n 1 h)

  pub taken-four : 1 < n → n ≤ 4 → words_taken n ≡ 4
  unfolding words_taken
  taken-four l h = rw (lt-leb n 1 l, le-leb n 4 h)

  pub taken-sixteen : 4 < n → words_taken n ≡ 16
  unfolding words_taken
  taken-sixteen l = rw (lt-leb n 1 (omega arith), lt-leb n 4 l)

  -- as many words as asked for
  taken-enough : n ≤ 16 → n ≤ words_taken n
  taken-enough h =
      by_cases (dec_le n 1) (λ a. rw (taken-one a) a)
      (λ o. by_cases (dec_le n 4) (λ a. rw (taken-four (omega arith) a) a) (λ u. rw (taken-sixteen (omega arith)) h))

  -- where no row stands past the words asked for, MATCH looks for all rows
  pub taken-all : (P : ℕ → Bool) → n ≤ 16 → ((i : ℕ) → P i ≡ true → 1 ≤ i) → NonePast n P → first_words (words_taken n) P ≡ P
  taken-all P h low past =
      both-subset (up_to (64 * words_taken n)) P
      (λ i e. up_to-inside (64 * words_taken n) i (low i e) (by_cases (dec_le i (64 * n)) (λ a. omega (arith, taken-enough h)) (λ o. clash e (past i (omega arith)))))

-- the rows of a slice are counted from 1
from_one : (l : List ℕ) (k : ℕ) → in_words l k ≡ true → 1 ≤ k
unfolding in_words
from_one l k e = (up_to-bounds size k ((and-eq-true_iff _ _).0 e).0).0

-- MATCH over columns that hold the ends f, told how many words the rows need, gives the rows with each end
pub each-end : (n : ℕ) (l x : List ℕ) (f : ℕ → ℕ) → ends_in l ≡ f → n ≤ 16 → NonePast n (in_words x) → EachEnd n l f (in_words x)
each-end n l x f e h past v = ap₂ (λ (g : ℕ → ℕ) (P : ℕ → Bool). equal_to g v P) e (taken-all n (in_words x) h (from_one x) past)

-- ── The words that rows need ──

-- r is the last row of P

module _ (P : ℕ → Bool) (r : ℕ) (top : r ≤ size) (there : 0 < r → P r ≡ true) (past : (i : ℕ) → r < i → P i ≡ false) where
  none-beyond : (k : ℕ) → r ≤ k → any size (λ i. ltb k i && P i) ≡ false
  none-beyond k h = none_any size (λ i. ltb k i && P i) (λ i lo hi. by_cases (dec_le i k) (λ u. rw (le-ltb k i u)) (λ u. rw (past i (omega arith)) (and-false (ltb k i))))

  some-beyond : (k : ℕ) → k < r → any size (λ i. ltb k i && P i) ≡ true
  some-beyond k h = any_some size r (λ i. ltb k i && P i) (omega arith) top ((and-eq-true_iff _ _).1 (lt-ltb k r h, there (omega arith)))

  pub width_one : r ≤ 64 → 1 ≡ words_for P
  unfolding words_for
  width_one h = rw (none-beyond 64 h)

  pub width_four : 64 < r → r ≤ 256 → 4 ≡ words_for P
  unfolding words_for
  width_four l h = rw (some-beyond 64 l, none-beyond 256 h)

  pub width-sixteen : 256 < r → 16 ≡ words_for P
  unfolding words_for
  width-sixteen l = rw (some-beyond 64 (omega arith), some-beyond 256 l)
