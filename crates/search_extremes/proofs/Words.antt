-- Rows as words: all words of the rows kept joined into one, and when a single row is left.
-- Assumes nothing.
use Prim.Native.Nat.{ℕ, zero, suc, ◌+◌, ◌-◌, ◌*◌, ◌/◌, ◌%◌, ◌^◌, ◌<◌, ◌≤◌}
use native.Mathlib.Decide.{ℕ_discrete, dec_lt}
use native.Mathlib.Nat.{eq-or-lt_of_le, lt_of_le_of_lt}
use native.Mathlib.Omega.{arith}
use mathlib.Core.Bool.{Bool, true, false, not}
use mathlib.Core.List.{List}
use mathlib.Core.Logic.{⊎_elim, by_cases}
use mathlib.Core.Path.{◌≡◌, refl, sym, ap, ◌∙◌}
use borrow.Author.Tests.{eq-eqb, ne_eqb, eqb-true}
use lib.Bits.{bit_or, bit_xor, or_zero_l, or_add_and, and_le_l, and_le_r}
use lib.Count.{ones, ones_step, count_trailing_zeros}
use Rattle.std.proofs.lemmas.Nat.{zero_from_ones}
use lib.Dec.{eqb}
use lib.ListN.{length, get_or}
use Rattle.rowset.specs.Sets.{any}
use Rattle.rowset.proofs.Laws.{any_some, none_any, clash}
use Rattle.slice.specs.Slices.{size, bit}
use Rattle.slice.proofs.Bits.{bit-of-zero, bit-zero, bit-suc, bit-at-trailing}
use Rattle.slice.proofs.Laws.{component-inside}
use Rattle.search_columns.specs.Steps.Rows.{rows_of, NonePast, mask}
use Rattle.search_extremes.specs.Steps.Column.{AtMostOne}
use Rattle.search_columns.proofs.Loops.{component-in}
use Rattle.search_columns.proofs.Words.{Kept, word, kept-no, kept-inside, kept_word_lem}

-- the rows l at column j + 1 of the words cs: those whose bit there is b, with all their words joined
module _ (b : Bool) (l cs : List ℕ) (j : ℕ) where
  -- what the first k words joined, w, say of the rows kept
  pub record Joined (w k : ℕ) : Type 0 where
    pub most : k ≤ 16
    pub none : w ≡ 0 → (p : ℕ) → p < k → word b l cs j p ≡ 0
    pub found : 0 < w → any size (Kept b l cs j) ≡ true

  pub joined-none : Joined 0 0
  joined-none = record { most = omega arith; none = λ e p h. absurd (omega arith); found = λ h. absurd (omega arith) }

  module _ (room : 16 * (j + 1) ≤ length cs) where
    -- a word that is not 0 has a row
    word-found : (p : ℕ) → p < 16 → 0 < word b l cs j p → word b l cs j p < 2 ^ 64 → any size (Kept b l cs j) ≡ true
    word-found p h some fits =
        let t = count_trailing_zeros 64 (word b l cs j p) in
        let at = bit-at-trailing 64 (word b l cs j p) some fits in
        any_some size (64 * p + t + 1) (Kept b l cs j) (omega arith) (omega arith) (kept_word_lem b l cs j room p t h at.0 ∙ at.1)

    pub joined-more : (w k : ℕ) → k < 16 → get_or l k 0 < 2 ^ 64 → Joined w k → Joined (bit_or w (word b l cs j k)) (k + 1)
    joined-more w k h fits m =
        record {
          most = omega arith;
          none = λ e p q.
              ⊎_elim (λ d. rw d (omega (arith, or_add_and w (word b l cs j k), and_le_l w (word b l cs j k), e)))
              (λ o. m.none (omega (arith, or_add_and w (word b l cs j k), and_le_r w (word b l cs j k), e)) p o) (eq-or-lt_of_le {n = p} {m = k} (omega arith));
          found = go w refl;
        }
      where
        go : (v : ℕ) → w ≡ v → 0 < bit_or w (word b l cs j k) → any size (Kept b l cs j) ≡ true
        go zero e some =
            word-found k h (omega (arith, ap (λ a. bit_or a (word b l cs j k)) e ∙ or_zero_l (word b l cs j k)))
            (lt_of_le_of_lt (and_le_l (get_or l k 0) (bit_xor (get_or cs (16 * j + k) 0) (mask b))) fits)
        go (suc v) e some = m.found (omega arith)

    pub joined-all : (used : ℕ) → NonePast used (rows_of l) → (w k : ℕ) → used ≤ k → Joined w k → not (eqb w 0) ≡ any size (Kept b l cs j)
    joined-all used past w k h m = go w refl
      where
        clear : w ≡ 0 → (i : ℕ) → 1 ≤ i → i ≤ size → Kept b l cs j i ≡ false
        clear e i low high =
            by_cases (dec_lt ((i - 1) / 64) k)
            (λ q. kept-inside b l cs j room i low high ∙ ap (λ a. bit a ((i - 1) % 64)) (m.none e ((i - 1) / 64) q) ∙ bit-of-zero ((i - 1) % 64))
            (λ o. kept-no b l cs j i (past i (omega arith)))

        go : (v : ℕ) → w ≡ v → not (eqb w 0) ≡ any size (Kept b l cs j)
        go zero e = rw (eq-eqb w 0 e) (sym (none_any size (Kept b l cs j) (clear e)))
        go (suc v) e = rw (ne_eqb w 0 (λ z. omega arith)) (sym (m.found (omega arith)))

-- a number of one bit: an odd one is 1, and the half of an even one has one bit
odd-half : (w : ℕ) → w % 2 ≡ 1 → ones w ≡ 1 → w / 2 ≡ 0
odd-half w o e = zero_from_ones (w / 2) (omega (arith, ones_step w))

even-half : (w : ℕ) → w % 2 ≡ 0 → ones w ≡ 1 → ones (w / 2) ≡ 1
even-half w o e = omega (arith, ones_step w)

-- an odd number with no other bit
no_other : (w a : ℕ) → w % 2 ≡ 1 → ones w ≡ 1 → bit w (suc a) ≡ false
no_other w a o e = bit-suc w a ∙ ap (λ v. bit v a) (odd-half w o e) ∙ bit-of-zero a

lowest : (w : ℕ) → bit w 0 ≡ true → w % 2 ≡ 1
lowest w h = eqb-true (w % 2) 1 (sym (bit-zero w) ∙ h)

pub one_bit : (a c w : ℕ) → ones w ≡ 1 → bit w a ≡ true → bit w c ≡ true → a ≡ c
one_bit zero zero w e ha hc = refl
one_bit zero (suc c) w e ha hc = clash hc (no_other w c (lowest w ha) e)
one_bit (suc a) zero w e ha hc = clash ha (no_other w a (lowest w hc) e)
one_bit (suc a) (suc c) w e ha hc =
    by_cases (ℕ_discrete (w % 2) 1) (λ o. clash ha (no_other w a o e))
    (λ o. ap suc (one_bit a c (w / 2) (even-half w (omega (arith, o)) e) (sym (bit-suc w a) ∙ ha) (sym (bit-suc w c) ∙ hc)))

-- of the first k words of l at most one is not 0, and that one is `found`
pub record OneWord (l : List ℕ) (found k : ℕ) : Type 0 where
  pub most : k ≤ 16
  pub same : (p q : ℕ) → p < k → q < k → 0 < get_or l p 0 → 0 < get_or l q 0 → p ≡ q
  pub value : (p : ℕ) → p < k → 0 < get_or l p 0 → get_or l p 0 ≡ found

module _ (l : List ℕ) where
  pub word_none : OneWord l 0 0
  word_none = record { most = omega arith; same = λ p q hp hq. absurd (omega arith); value = λ p hp. absurd (omega arith) }

  -- one word more, that is 0, and the first that is not 0
  pub word-zero : (found k : ℕ) → k < 16 → get_or l k 0 ≡ 0 → OneWord l found k → OneWord l found (k + 1)
  word-zero found k h e m =
      record {
        most = omega arith;
        same = λ p q hp hq sp sq. m.same p q (below p hp sp) (below q hq sq) sp sq;
        value = λ p hp sp. m.value p (below p hp sp) sp;
      }
    where
      below : (p : ℕ) → p < k + 1 → 0 < get_or l p 0 → p < k
      below p hp sp = ⊎_elim (λ d. absurd (omega (arith, ap (λ a. get_or l a 0) d))) (λ o. o) (eq-or-lt_of_le {n = p} {m = k} (omega arith))

  pub word_first : (found k : ℕ) → k < 16 → found ≡ 0 → OneWord l found k → OneWord l (get_or l k 0) (k + 1)
  word_first found k h e m = record { most = omega arith; same = λ p q hp hq sp sq. here p hp sp ∙ sym (here q hq sq); value = λ p hp sp. ap (λ a. get_or l a 0) (here p hp sp) }
    where
      here : (p : ℕ) → p < k + 1 → 0 < get_or l p 0 → p ≡ k
      here p hp sp = ⊎_elim (λ d. d) (λ o. absurd (omega (arith, m.value p o sp))) (eq-or-lt_of_le {n = p} {m = k} (omega arith))

  -- a row stands in a word that is not 0
  row_word : (used : ℕ) → NonePast used (rows_of l) → (i : ℕ) → rows_of l i ≡ true → ((i - 1) / 64 < used) × (0 < get_or l ((i - 1) / 64) 0) × (bit (get_or l ((i - 1) / 64) 0) ((i - 1) % 64) ≡ true) × (1 ≤ i)
  row_word used past i e =
      let (low, high) = component-in (record { words = l }) i e in
      let at = sym (component-inside (record { words = l }) i low high) ∙ e in
      (by_cases (dec_lt ((i - 1) / 64) used) (λ q. q) (λ o. clash e (past i (omega arith))), some (get_or l ((i - 1) / 64) 0) at, at, low)
    where
      some : (w : ℕ) → bit w ((i - 1) % 64) ≡ true → 0 < w
      some zero h = clash h (bit-of-zero ((i - 1) % 64))
      some (suc w) h = omega arith

  pub word-all : (used found k : ℕ) → NonePast used (rows_of l) → used ≤ k → ones found ≡ 1 → OneWord l found k → AtMostOne (rows_of l)
  word-all used found k past h e m a c ha hc =
      let (pa, sa, ba, la) = row_word used past a ha in
      let (pc, sc, bc, lc) = row_word used past c hc in
      let same : (a - 1) / 64 ≡ (c - 1) / 64 = m.same ((a - 1) / 64) ((c - 1) / 64) (omega arith) (omega arith) sa sc in
      let place : (a - 1) % 64 ≡ (c - 1) % 64 =
      one_bit ((a - 1) % 64) ((c - 1) % 64) found e (rw (m.value ((a - 1) / 64) (omega arith) sa) at ba) (rw (m.value ((c - 1) / 64) (omega arith) sc) at bc) in
      omega arith
