-- The bytes of star_restore mean what they should: what is read back is the answer's own fields, and the words are those of the rows in use with the row put to them.
-- Assumes nothing.
use Prim.Native.Nat.{ℕ, ◌<◌}
use lib.ListN.{length}
use mathlib.Core.Bool.{Bool, true, false, cond, false≢true}
use mathlib.Core.List.{List}
use mathlib.Core.Logic.{by_cases}
use mathlib.Core.Option.{Option, none}
use mathlib.Core.Path.{◌≡◌, refl, sym, ap, ◌∙◌}
use native.Mathlib.Decide.{ℕ_discrete}
use native.Mathlib.Omega.{arith}
use Rattle.change_meaning.specs.Bytes.{IsDone, Declined}
use Rattle.change_spec.proofs.Refusing.{no}
use Rattle.change_spec.specs.Changes.{struck_words}
use Rattle.refusal.specs.declared.Refusal.{Refusal}
use Rattle.restore_spec.proofs.Refusing.{test-struck, struck-test, restore-held, restore-wrong, restore-done, unrestored, restored-rows, restored-length, given_back, struck-back}
use Rattle.restore_spec.specs.Bytes.{Struck, RestoreCall, RestoreDoorMeans}
use Rattle.restore_spec.specs.Restoring.{not_struck, restore_refusal, restored_words, restore_door, restore_door_words}
use Rattle.rowset.specs.Words.{column_words, in_words}
use Rattle.star_meaning.proofs.Bytes.{Fits, lent-well, lent-ill, returns_one, returns-zero, after_kept, read_back_lem, kind-none, none-kind}
use Rattle.star_meaning.proofs.Demand3.{apart}
use Rattle.star_meaning.specs.Bytes.{Written}
use Rattle.star_spec.specs.Door.{fields, outcome_fields, well_lent, door_returns, answer_after}

-- ── The outcome ──

-- done, or one of two refusals
data Ends (words : List ℕ) (row : ℕ) : Type 0 where
  done : Struck words row → length words ≡ column_words → restore_refusal words row ≡ none → Ends words row
  in_use : (Struck words row → ⊥) → restore_refusal words row ≡ no 27 → Ends words row
  wrong : Struck words row → (length words ≡ column_words → ⊥) → restore_refusal words row ≡ no 3 → Ends words row

ends : (words : List ℕ) (row : ℕ) → Ends words row
ends words row = go (not_struck (in_words words row) row) refl
  where
    go : (b : Bool) → not_struck (in_words words row) row ≡ b → Ends words row
    go true e = in_use (λ s. false≢true (sym (test-struck words row s) ∙ e)) (restore-held words row e)
    go false e =
        let s = struck-test words row e in
        by_cases (ℕ_discrete (length words) column_words) (λ l. done s l (restore-done words row e l)) (λ n. wrong s n (restore-wrong words row e n))

module _ (words : List ℕ) (row : ℕ) where
  abbrev o : Option Refusal
  o = restore_refusal words row

  none-struck : o ≡ none → Struck words row × (length words ≡ column_words)
  none-struck q = elim (ends words row) [ done s l e ↦ (s, l) | in_use n e ↦ absurd (apart _ (sym e ∙ q)) | wrong s n e ↦ absurd (apart _ (sym e ∙ q)) ]

  held-refused : (Struck words row → ⊥) → o ≡ no 27
  held-refused n = elim (ends words row) [ done s l e ↦ absurd (n s) | in_use m e ↦ e | wrong s m e ↦ absurd (n s) ]

  no-fits : (k : ℕ) → k < 256 → o ≡ no k → Fits (outcome_fields o)
  unfolding outcome_fields fields
  no-fits k h e = rw e (record { kind = omega arith; number = h; out = omega arith; into = omega arith; only = omega arith; amount = omega arith })

  done-fits : o ≡ none → Fits (outcome_fields o)
  unfolding outcome_fields
  done-fits e = rw e (record { kind = omega arith; number = omega arith; out = omega arith; into = omega arith; only = omega arith; amount = omega arith })

  fits : Fits (outcome_fields o)
  fits = elim (ends words row) [ done s l e ↦ done-fits e | in_use n e ↦ no-fits 27 (omega arith) e | wrong s n e ↦ no-fits 3 (omega arith) e ]

  -- what is read back of sixteen bytes
  module _ (answer : List ℕ) (e : length answer ≡ 16) where
    back : Written (answer_after answer (outcome_fields o)) (outcome_fields o)
    back = read_back_lem answer (outcome_fields o) fits e

    done_none : IsDone (answer_after answer (outcome_fields o)) → o ≡ none
    done_none k = kind-none o (sym (ap (λ x. x.kind) back.fields) ∙ k)

    none_done : o ≡ none → IsDone (answer_after answer (outcome_fields o))
    none_done q = ap (λ x. x.kind) back.fields ∙ none-kind o q

    told-no : (k : ℕ) → o ≡ no k → Declined (answer_after answer (outcome_fields o)) k
    unfolding outcome_fields fields
    told-no k q = rw (back.fields, q) (refl, refl, refl)

-- ── The call ──

pub restore-door-means : RestoreDoorMeans
unfolding restore_door restore_door_words
restore-door-means words row answer =
    record {
      declined = λ n. (returns-zero answer n, after_kept answer _ n, lent-ill answer _ words n);
      returns = returns_one answer;
      written = back words row answer;
      told = λ e. (λ k. none-struck words row (done_none words row answer e k), λ h. none_done words row answer e (restore-done words row (test-struck words row h.0) h.1));
      restored = λ e k. let (s, l) = none-struck words row (done_none words row answer e k) in (ap length (well e) ∙ restored-length words row s l, ap in_words (well e) ∙ restored-rows words row s l);
      gives_back = λ e k others t u q. let (s, l) = none-struck words row (done_none words row answer e k) in well e ∙ given_back words row s l others t u q;
      struck-again = λ e k t. let (s, l) = none-struck words row (done_none words row answer e k) in ap (λ x. struck_words x row) (well e) ∙ struck-back words row s l t;
      not-struck = λ e n. let q = held-refused words row n in (told-no words row answer e 27 q, well e ∙ unrestored words row _ q);
      wrong-words = λ e s n. let q = restore-wrong words row (test-struck words row s) n in (told-no words row answer e 3 q, well e ∙ unrestored words row _ q);
    }
  where
    well : length answer ≡ 16 → cond (well_lent answer) (restored_words words row) words ≡ restored_words words row
    well e = lent-well answer (restored_words words row) words e

-- a door that returns and leaves what the definitions say is such a call
pub restore-call : {words answer after left : List ℕ} {row r : ℕ} → (r ≡ door_returns answer) × ((after ≡ restore_door words row answer) × (left ≡ restore_door_words words row answer))
    → (r ≡ door_returns answer) × ((after ≡ restore_door words row answer) × ((left ≡ restore_door_words words row answer) × RestoreCall words row answer after left r))
restore-call {words} {answer} {row = row} (p, (q, s)) = (p, (q, (s, rw (p, q, s) (restore-door-means words row answer))))
