-- Rows as words that are put into the words of other rows: what the loop over the words has done.
-- Assumes nothing.
use Prim.Native.Nat.{ℕ, ◌+◌, ◌*◌, ◌<◌, ◌≤◌}
use native.Mathlib.Decide.{dec_lt}
use native.Mathlib.Nat.{eq-or-lt_of_le}
use native.Mathlib.Omega.{arith}
use mathlib.Core.Bool.{Bool, ◌||◌, or-false}
use mathlib.Core.List.{List}
use mathlib.Core.Logic.{⊎_elim, by_cases}
use mathlib.Core.Path.{◌≡◌, refl, sym, ap, ap₂, ◌∙◌}
use lib.Bits.{bit_or}
use lib.ListN.{length, get_or, set, length-set}
use lib.Seq.{get_or-set_same, get_or-set_other}
use Rattle.rowset.specs.Sets.{either}
use Rattle.slice.specs.Slices.{bit}
use Rattle.slice.proofs.Bits.{bit-op, or-bitwise}
use Rattle.slice.proofs.Laws.{component-at, component-outside, component-ext}
use Rattle.search_columns.specs.Steps.Rows.{rows_of, NonePast}
use Rattle.search_columns.proofs.Words.{Kept, word, kept-no, kept_word_lem}

-- the rows g, and with them the rows l whose bit in column j + 1 of the words cs is b
module _ (b : Bool) (l cs : List ℕ) (j : ℕ) where
  -- the first k words of r are those of g with the rows kept, and the others those of g
  pub record Widened (g r : List ℕ) (k : ℕ) : Type 0 where
    pub most : k ≤ 16
    pub full : length r ≡ 16
    pub done : (p : ℕ) → p < k → get_or r p 0 ≡ bit_or (get_or g p 0) (word b l cs j p)
    pub rest : (p : ℕ) → k ≤ p → get_or r p 0 ≡ get_or g p 0

  pub widened_none : (g : List ℕ) → length g ≡ 16 → Widened g g 0
  widened_none g h = record { most = omega arith; full = h; done = λ p q. absurd (omega arith); rest = λ p q. refl }

  pub widened_more : (g r : List ℕ) (k : ℕ) → k < 16 → Widened g r k → Widened g (set r k (bit_or (get_or r k 0) (word b l cs j k))) (k + 1)
  widened_more g r k h m =
      record {
        most = omega arith;
        full = length-set r k _ ∙ m.full;
        done = λ p q. ⊎_elim (λ e. rw e here) (λ o. get_or-set_other r k p _ 0 (λ e. omega arith) ∙ m.done p o) (eq-or-lt_of_le {n = p} {m = k} (omega arith));
        rest = λ p q. get_or-set_other r k p _ 0 (λ e. omega arith) ∙ m.rest p (omega arith);
      }
    where
      here : get_or (set r k (bit_or (get_or r k 0) (word b l cs j k))) k 0 ≡ bit_or (get_or g k 0) (word b l cs j k)
      here = get_or-set_same r k _ 0 (omega (arith, m.full)) ∙ ap (λ a. bit_or a (word b l cs j k)) (m.rest k (omega arith))

  module _ (room : 16 * (j + 1) ≤ length cs) (g : List ℕ) where
    pub widened-all : (used : ℕ) → NonePast used (rows_of l) → (r : List ℕ) (k : ℕ) → used ≤ k → Widened g r k → rows_of r ≡ either (rows_of g) (Kept b l cs j)
    unfolding either
    widened-all used past r k h m =
        component-ext (record { words = r }) (λ i. rows_of g i || Kept b l cs j i)
        (λ i e. rw (component-outside (record { words = g }) i e, kept-no b l cs j i (component-outside (record { words = l }) i e)))
        (λ p t hp ht.
        by_cases (dec_lt p k)
        (λ q.
        ap (λ w. bit w t) (m.done p q)
        ∙ bit-op bit_or ◌||◌ or-bitwise (get_or g p 0) (word b l cs j p) t
        ∙ ap₂ (λ (a c : Bool). a || c) (sym (component-at (record { words = g }) p t hp ht)) (sym (kept_word_lem b l cs j room p t hp ht)))
        (λ o.
        ap (λ w. bit w t) (m.rest p (omega arith)) ∙ sym (component-at (record { words = g }) p t hp ht)
        ∙ sym (ap (λ (a : Bool). rows_of g (64 * p + t + 1) || a) (kept-no b l cs j (64 * p + t + 1) (past (64 * p + t + 1) (omega arith))) ∙ or-false _)))
