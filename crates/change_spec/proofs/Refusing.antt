-- Laws of the refusals of striking, MERGE, adding a row and carrying a claim, and of what each leaves behind, case by case.
-- Assumes nothing.
use Prim.Native.Nat.{ℕ}
use borrow.Author.Tests.{eq-eqb, ne_eqb}
use lib.ListN.{length}
use mathlib.Core.Bool.{true, false}
use mathlib.Core.List.{List}
use mathlib.Core.Logic.{◌≢◌}
use mathlib.Core.Option.{Option, none, some}
use mathlib.Core.Path.{◌≡◌}
use Rattle.refusal.specs.declared.Refusal.{Refusal}
use Rattle.rowset.specs.Sets.{take_out, count}
use Rattle.rowset.specs.Words.{column_words, in_words}
use Rattle.star_spec.specs.Refusals.{max_rows, cause, or_else, refusal}
use Rattle.change_spec.specs.Carrying.{carried_claim, wrong_carry, carry_refusal, carried_marks}
use Rattle.change_spec.specs.Changes.{afterwards, words_of, struck_words, packed_table, merged, room_made, new_row, with_new_row, added, unadded, added_at, answered, add_answer}
use Rattle.change_spec.specs.Tables.{Working, in_use, bad_sizes, table_full, not_in_use, strike_refusal, merge_refusal, add_refusal}
use Rattle.change_spec.proofs.Tables.{wrong}

-- what is left, where something is refused and where nothing is
pub kept-old : {A : Type 0} (o : Option Refusal) (r : Refusal) (new old : A) → o ≡ some r → afterwards o new old ≡ old
unfolding afterwards
kept-old o r new old e = rw e

pub made-new : {A : Type 0} (o : Option Refusal) (new old : A) → o ≡ none → afterwards o new old ≡ new
unfolding afterwards
made-new o new old e = rw e

-- the refusal with this number
abbrev pub no : ℕ → Option Refusal
no number = some (record { number = number; place = 0 })

-- ── Striking ──

module _ (words : List ℕ) (row : ℕ) where
  pub strike-absent : in_words words row ≡ false → strike_refusal words row ≡ no 18
  unfolding strike_refusal not_in_use cause or_else refusal
  strike-absent e = rw e

  pub strike-wrong : in_words words row ≡ true → length words ≢ column_words → strike_refusal words row ≡ no 3
  unfolding strike_refusal not_in_use cause or_else refusal
  strike-wrong e h = rw (e, ne_eqb (length words) column_words h)

  pub strike-done : in_words words row ≡ true → length words ≡ column_words → strike_refusal words row ≡ none
  unfolding strike_refusal not_in_use cause or_else refusal
  strike-done e h = rw (e, eq-eqb (length words) column_words h)

  pub unstruck : (r : Refusal) → strike_refusal words row ≡ some r → struck_words words row ≡ words
  unfolding struck_words
  unstruck r = kept-old (strike_refusal words row) r _ words

  pub struck : strike_refusal words row ≡ none → struck_words words row ≡ words_of (take_out (in_words words) row)
  unfolding struck_words
  struck = made-new (strike_refusal words row) _ words

-- ── MERGE and adding ──

module _ (t : Working) where
  pub merge-wrong : wrong t ≡ true → merge_refusal t ≡ no 3
  unfolding merge_refusal bad_sizes cause
  merge-wrong e = rw e

  pub merge-done : wrong t ≡ false → merge_refusal t ≡ none
  unfolding merge_refusal bad_sizes cause
  merge-done e = rw e

  pub unmerged : (r : Refusal) → merge_refusal t ≡ some r → merged t ≡ t
  unfolding merged
  unmerged r = kept-old (merge_refusal t) r _ t

  pub merged-packed : merge_refusal t ≡ none → merged t ≡ packed_table t
  unfolding merged
  merged-packed = made-new (merge_refusal t) _ t

  pub add-full : count max_rows (in_use t) ≡ max_rows → add_refusal t ≡ no 17
  unfolding add_refusal table_full cause or_else refusal
  add-full e = rw (eq-eqb (count max_rows (in_use t)) max_rows e)

  pub add-wrong : count max_rows (in_use t) ≢ max_rows → wrong t ≡ true → add_refusal t ≡ no 3
  unfolding add_refusal table_full bad_sizes cause or_else refusal
  add-wrong h e = rw (ne_eqb (count max_rows (in_use t)) max_rows h, e)

  pub add_done : count max_rows (in_use t) ≢ max_rows → wrong t ≡ false → add_refusal t ≡ none
  unfolding add_refusal table_full bad_sizes cause or_else refusal
  add_done h e = rw (ne_eqb (count max_rows (in_use t)) max_rows h, e)

  pub unadded-answer : (r : Refusal) → add_refusal t ≡ some r → add_answer t ≡ unadded r
  unfolding add_answer answered
  unadded-answer r e = rw e

  pub added-answer : add_refusal t ≡ none → add_answer t ≡ added_at (new_row (room_made t))
  unfolding add_answer answered
  added-answer e = rw e

  module _ (a b price : ℕ) where
    pub unadded-table : (r : Refusal) → add_refusal t ≡ some r → added t a b price ≡ t
    unfolding added
    unadded-table r = kept-old (add_refusal t) r _ t

    pub added-table : add_refusal t ≡ none → added t a b price ≡ with_new_row (room_made t) (new_row (room_made t)) a b price
    unfolding added
    added-table = made-new (add_refusal t) _ t

-- ── Carrying ──

module _ (numbers claim : List ℕ) where
  pub carry-wrong : wrong_carry (length numbers) (length claim) ≡ true → carry_refusal numbers claim ≡ no 3
  unfolding carry_refusal cause
  carry-wrong e = rw e

  pub carry-done : wrong_carry (length numbers) (length claim) ≡ false → carry_refusal numbers claim ≡ none
  unfolding carry_refusal cause
  carry-done e = rw e

  pub uncarried : (r : Refusal) → carry_refusal numbers claim ≡ some r → carried_marks numbers claim ≡ claim
  unfolding carried_marks
  uncarried r = kept-old (carry_refusal numbers claim) r _ claim

  pub carried : carry_refusal numbers claim ≡ none → carried_marks numbers claim ≡ carried_claim numbers claim
  unfolding carried_marks
  carried = made-new (carry_refusal numbers claim) _ claim
