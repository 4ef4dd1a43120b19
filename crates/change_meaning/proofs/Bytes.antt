-- The bytes of the doors that change a working table mean what they should: what is read back is the answer's own fields, and the theorems of working tables say what they are worth.
-- Assumes nothing.
use Prim.Native.Nat.{ℕ, ◌<◌, ◌≤◌}
use borrow.Author.Tests.{eqb-false, eq-eqb, not-false}
use lib.IntN.{pos}
use lib.ListN.{length}
use mathlib.Core.Bool.{Bool, true, false, cond}
use mathlib.Core.List.{List, []}
use mathlib.Core.Logic.{by_cases}
use mathlib.Core.Option.{Option, none, some}
use mathlib.Core.Path.{◌≡◌, refl, sym, ap, ◌∙◌, subst}
use native.Mathlib.Decide.{ℕ_discrete}
use native.Mathlib.Omega.{arith}
use Rattle.star_meaning.proofs.Bytes.{Fits, lent-well, lent-ill, returns_one, returns-zero, after_kept, read_back_lem, kind-none, none-kind}
use Rattle.star_meaning.specs.Bytes.{Written}
use Rattle.path_matrix.proofs.Laws.{length-words_from}
use Rattle.change_meaning.proofs.Packing.{merging-keeps, adding-keeps}
use Rattle.change_meaning.specs.Bytes.{IsDone, Declined, RightSizes, StrikeCall, MergeCall, AddMeans, AddCall, CarryCall, StrikeDoorMeans, MergeDoorMeans, AddDoorMeans, CarryDoorMeans}
use Rattle.refusal.specs.declared.Refusal.{Refusal}
use Rattle.rowset.proofs.Laws.{count-bound}
use Rattle.rowset.specs.Sets.{count}
use Rattle.rowset.specs.Words.{column_words, in_words}
use Rattle.star_spec.proofs.Accepted.{none-head, none_tail, cause-none}
use Rattle.star_spec.specs.Door.{fields, outcome_fields, read_back, well_lent, door_returns, answer_after}
use Rattle.star_spec.specs.Refusals.{max_rows}
use Rattle.change_spec.proofs.Carrying.{carry-lengths}
use Rattle.change_spec.proofs.Meaning.{striking-strikes, merging-merges, adding-adds}
use Rattle.change_spec.proofs.Refusing.{no, strike-absent, strike-wrong, strike-done, unstruck, struck, merge-wrong, merge-done, unmerged, add-full, add-wrong, add_done, unadded-answer, added-answer, unadded-table, carry-wrong, carry-done, uncarried, carried}
use Rattle.change_spec.proofs.Tables.{same, wrong, sizes-sized}
use Rattle.change_spec.specs.Carrying.{wrong_carry, carried_claim, carry_refusal, carried_marks}
use Rattle.change_spec.specs.Changes.{unadded, added_at, add_answer, new_row, room_made, added}
use Rattle.change_spec.specs.Door.{add_fields, strike_door, strike_door_words, merge_door, merge_door_table, add_door, add_door_table, carry_door, carry_door_marks}
use Rattle.change_spec.specs.Tables.{Working, in_use, bad_sizes, table_full, not_in_use, strike_refusal, merge_refusal, add_refusal}

-- ── What is lent and read back ──

-- an outcome is none, or one of few refusals
done-fits : (o : Option Refusal) → o ≡ none → Fits (outcome_fields o)
unfolding outcome_fields
done-fits o e = rw e (record { kind = omega arith; number = omega arith; out = omega arith; into = omega arith; only = omega arith; amount = omega arith })

no-fits : (o : Option Refusal) (k : ℕ) → k < 256 → o ≡ no k → Fits (outcome_fields o)
unfolding outcome_fields fields
no-fits o k h e = rw e (record { kind = omega arith; number = h; out = omega arith; into = omega arith; only = omega arith; amount = omega arith })

-- the bytes of an outcome: done exactly where there is no refusal, and a refusal by its number
module _ (answer : List ℕ) (o : Option Refusal) (f : Fits (outcome_fields o)) (e : length answer ≡ 16) where
  back : Written (answer_after answer (outcome_fields o)) (outcome_fields o)
  back = read_back_lem answer (outcome_fields o) f e

  done_none : IsDone (answer_after answer (outcome_fields o)) → o ≡ none
  done_none k = kind-none o (sym (ap (λ x. x.kind) back.fields) ∙ k)

  none_done : o ≡ none → IsDone (answer_after answer (outcome_fields o))
  none_done q = ap (λ x. x.kind) back.fields ∙ none-kind o q

  told-no : (k : ℕ) → o ≡ no k → Declined (answer_after answer (outcome_fields o)) k
  unfolding outcome_fields fields
  told-no k q = rw (back.fields, q) (refl, refl, refl)

-- ── Striking ──

module _ (words : List ℕ) (row : ℕ) where
  strike-none : strike_refusal words row ≡ none → (in_words words row ≡ true) × (length words ≡ column_words)
  unfolding strike_refusal not_in_use
  strike-none e = (not-false _ (cause-none _ 18 0 (none-head _ _ e)), same _ _ (cause-none _ 3 0 (none-head _ [] (none_tail _ _ e))))

  strike-fits : Fits (outcome_fields (strike_refusal words row))
  strike-fits = go (in_words words row) refl
    where
      go : (b : Bool) → in_words words row ≡ b → Fits (outcome_fields (strike_refusal words row))
      go false u = no-fits _ 18 (omega arith) (strike-absent words row u)
      go true u = by_cases (ℕ_discrete (length words) column_words) (λ l. done-fits _ (strike-done words row u l)) (λ n. no-fits _ 3 (omega arith) (strike-wrong words row u n))

pub strike-door-means : StrikeDoorMeans
unfolding strike_door strike_door_words
strike-door-means words row answer =
    record {
      declined = λ n. (returns-zero answer n, after_kept answer _ n, lent-ill answer _ words n);
      returns = returns_one answer;
      written = back answer o f;
      told = λ e. (λ k. strike-none words row (done_none answer o f e k), λ h. none_done answer o f e (strike-done words row h.0 h.1));
      struck =
          λ e k.
          let q = done_none answer o f e k in
          (ap length (lent-well answer _ words e ∙ struck words row q) ∙ length-words_from _ 0 column_words, ap in_words (lent-well answer _ words e) ∙ (striking-strikes words row).done q);
      not-in-use = λ e u. let q = strike-absent words row u in (told-no answer o f e 18 q, lent-well answer _ words e ∙ unstruck words row _ q);
      wrong-words = λ e u n. let q = strike-wrong words row u n in (told-no answer o f e 3 q, lent-well answer _ words e ∙ unstruck words row _ q);
    }
  where
    o : Option Refusal
    o = strike_refusal words row

    f : Fits (outcome_fields (strike_refusal words row))
    f = strike-fits words row

-- ── MERGE ──

module _ (t : Working) where
  wrong-right : wrong t ≡ false → RightSizes t
  wrong-right e = let (s, n) = sizes-sized t e in record { words = s.words; left = s.left; right = s.right; weight = s.weight; numbers = n }

  right-wrong : RightSizes t → wrong t ≡ false
  right-wrong r = rw (eq-eqb _ _ r.words, eq-eqb _ _ r.left, eq-eqb _ _ r.right, eq-eqb _ _ r.weight, eq-eqb _ _ r.numbers)

  not_right : (RightSizes t → ⊥) → wrong t ≡ true
  not_right n = go (wrong t) refl
    where
      go : (b : Bool) → wrong t ≡ b → wrong t ≡ true
      go true e = e
      go false e = absurd (n (wrong-right e))

  merge_none : merge_refusal t ≡ none → RightSizes t
  unfolding merge_refusal bad_sizes
  merge_none e = wrong-right (cause-none _ 3 0 e)

  merge-fits : Fits (outcome_fields (merge_refusal t))
  merge-fits = go (wrong t) refl
    where
      go : (b : Bool) → wrong t ≡ b → Fits (outcome_fields (merge_refusal t))
      go false e = done-fits _ (merge-done t e)
      go true e = no-fits _ 3 (omega arith) (merge-wrong t e)

pub merge-door-means : MergeDoorMeans
unfolding merge_door merge_door_table
merge-door-means t answer =
    record {
      declined = λ n. (returns-zero answer n, after_kept answer _ n, lent-ill answer _ t n);
      returns = returns_one answer;
      written = back answer o f;
      told = λ e. (λ k. merge_none t (done_none answer o f e k), λ h. none_done answer o f e (merge-done t (right-wrong t h)));
      merges = λ e k. rw (lent-well answer _ t e) ((merging-merges t).done (done_none answer o f e k));
      keeps = λ e k n claim a. rw (lent-well answer _ t e) (merging-keeps n t claim a (done_none answer o f e k));
      wrong-sizes = λ e n. let q = merge-wrong t (not_right t n) in (told-no answer o f e 3 q, lent-well answer _ t e ∙ unmerged t _ q);
    }
  where
    o : Option Refusal
    o = merge_refusal t

    f : Fits (outcome_fields (merge_refusal t))
    f = merge-fits t

-- ── Adding ──

module _ (t : Working) where
  add_none : add_refusal t ≡ none → (count max_rows (in_use t) < max_rows) × RightSizes t
  unfolding add_refusal table_full bad_sizes
  add_none e =
      let few = eqb-false _ _ (cause-none _ 17 0 (none-head _ _ e)) in
      (free few, wrong-right t (cause-none _ 3 0 (none-head _ [] (none_tail _ _ e))))
    where
      free : (count max_rows (in_use t) ≡ max_rows → ⊥) → count max_rows (in_use t) < max_rows
      free n = omega (arith, n, count-bound max_rows (in_use t))

  add_free : count max_rows (in_use t) < max_rows → count max_rows (in_use t) ≡ max_rows → ⊥
  add_free h e = omega arith

-- the fields of an add's answer: a position of 1 to 1,024, or as those of an outcome
added-fits : (i : ℕ) → i ≤ 1024 → Fits (add_fields (added_at i))
unfolding add_fields
added-fits i h = record { kind = omega arith; number = omega arith; out = omega arith; into = omega arith; only = omega arith; amount = omega arith }

unadded-fields : (r : Refusal) → add_fields (unadded r) ≡ outcome_fields (some r)
unfolding add_fields
unadded-fields r = refl

added-kind : (i : ℕ) → (add_fields (added_at i)).kind ≡ 1
unfolding add_fields
added-kind i = refl

added-amount : (i : ℕ) → (add_fields (added_at i)).amount ≡ pos i
unfolding add_fields
added-amount i = refl

module _ (t : Working) where
  -- an add is refused, or not
  add-cases : (P : Type 0) → (add_refusal t ≡ none → P) → ((k : ℕ) → k < 256 → add_refusal t ≡ no k → P) → P
  add-cases P free refused =
      by_cases (ℕ_discrete (count max_rows (in_use t)) max_rows) (λ e. refused 17 (omega arith) (add-full t e)) (λ n. go n (wrong t) refl)
    where
      go : (count max_rows (in_use t) ≡ max_rows → ⊥) → (b : Bool) → wrong t ≡ b → P
      go n true e = refused 3 (omega arith) (add-wrong t n e)
      go n false e = free (add_done t n e)

  add-fits : Fits (add_fields (add_answer t))
  add-fits =
      add-cases _
      (λ e. rw (added-answer t e) (added-fits _ ((adding-adds t 0 0 0).done e).position.1))
      (λ k h e. rw (unadded-answer t _ e, unadded-fields (record { number = k; place = 0 })) (no-fits (no k) k h refl))

  module _ (answer : List ℕ) (e : length answer ≡ 16) where
    add_back : Written (answer_after answer (add_fields (add_answer t))) (add_fields (add_answer t))
    add_back = read_back_lem answer (add_fields (add_answer t)) add-fits e

    add-told : add_refusal t ≡ none → IsDone (answer_after answer (add_fields (add_answer t)))
    add-told q = rw (add_back.fields, added-answer t q) (added-kind _)

    add-amount : add_refusal t ≡ none → (read_back (answer_after answer (add_fields (add_answer t)))).amount ≡ pos (new_row (room_made t))
    add-amount q = rw (add_back.fields, added-answer t q) (added-amount _)

    add-no : (k : ℕ) → add_refusal t ≡ no k → Declined (answer_after answer (add_fields (add_answer t))) k
    unfolding outcome_fields fields
    add-no k q = rw (add_back.fields, unadded-answer t _ q, unadded-fields (record { number = k; place = 0 })) (refl, refl, refl)

    told_none : IsDone (answer_after answer (add_fields (add_answer t))) → add_refusal t ≡ none
    told_none k = add-cases _ (λ q. q) (λ j h q. let z = (add-no j q).0 in absurd (omega arith))

pub add-door-means : AddDoorMeans
unfolding add_door add_door_table
add-door-means t a b price answer =
    record {
      declined = λ n. (returns-zero answer n, after_kept answer _ n, lent-ill answer _ t n);
      returns = returns_one answer;
      written = add_back t answer;
      told = λ e. (λ k. add_none t (told_none t answer e k), λ h. add-told t answer e (add_done t (add_free t h.0) (right-wrong t h.1)));
      added =
          λ e k.
          let q = told_none t answer e k in
          (new_row (room_made t), add-amount t answer e q, rw (lent-well answer _ t e) (means q));
      full = λ e c. let q = add-full t c in (add-no t answer e 17 q, lent-well answer _ t e ∙ unadded-table t a b price _ q);
      wrong-sizes = λ e h n. let q = add-wrong t (add_free t h) (not_right t n) in (add-no t answer e 3 q, lent-well answer _ t e ∙ unadded-table t a b price _ q);
    }
  where
    means : add_refusal t ≡ none → AddMeans t a b price (added t a b price) (new_row (room_made t))
    means q =
        record {
          room = room_made t;
          packs = (adding-adds t a b price).packs q;
          stays = (adding-adds t a b price).keeps q;
          adds = (adding-adds t a b price).done q;
          keeps = λ n claim h. adding-keeps n t claim h a b price q;
        }

-- ── Carrying ──

module _ (numbers claim : List ℕ) where
  carry-none : carry_refusal numbers claim ≡ none → (length numbers ≡ max_rows) × (length claim ≡ max_rows)
  unfolding carry_refusal
  carry-none e = carry-lengths (length numbers) (length claim) (cause-none _ 3 0 e)

  carry-right : (length numbers ≡ max_rows) × (length claim ≡ max_rows) → wrong_carry (length numbers) (length claim) ≡ false
  carry-right h = rw (eq-eqb _ _ h.0, eq-eqb _ _ h.1)

  carry-not : ((length numbers ≡ max_rows) × (length claim ≡ max_rows) → ⊥) → wrong_carry (length numbers) (length claim) ≡ true
  carry-not n = go (wrong_carry (length numbers) (length claim)) refl
    where
      go : (b : Bool) → wrong_carry (length numbers) (length claim) ≡ b → wrong_carry (length numbers) (length claim) ≡ true
      go true e = e
      go false e = absurd (n (carry-lengths (length numbers) (length claim) e))

  carry-fits : Fits (outcome_fields (carry_refusal numbers claim))
  carry-fits = go (wrong_carry (length numbers) (length claim)) refl
    where
      go : (b : Bool) → wrong_carry (length numbers) (length claim) ≡ b → Fits (outcome_fields (carry_refusal numbers claim))
      go false e = done-fits _ (carry-done numbers claim e)
      go true e = no-fits _ 3 (omega arith) (carry-wrong numbers claim e)

pub carry-door-means : CarryDoorMeans
unfolding carry_door carry_door_marks
carry-door-means numbers claim answer =
    record {
      declined = λ n. (returns-zero answer n, after_kept answer _ n, lent-ill answer _ claim n);
      returns = returns_one answer;
      written = back answer o f;
      told = λ e. (λ k. carry-none numbers claim (done_none answer o f e k), λ h. none_done answer o f e (carry-done numbers claim (carry-right numbers claim h)));
      carried = marks;
      passes = λ e k n t s h q weight alone p. rw (marks e k, ← q) (h.passes weight alone p);
      wrong-sizes = λ e n. let q = carry-wrong numbers claim (carry-not numbers claim n) in (told-no answer o f e 3 q, lent-well answer _ claim e ∙ uncarried numbers claim _ q);
    }
  where
    o : Option Refusal
    o = carry_refusal numbers claim

    f : Fits (outcome_fields (carry_refusal numbers claim))
    f = carry-fits numbers claim

    marks : length answer ≡ 16 → IsDone (answer_after answer (outcome_fields (carry_refusal numbers claim))) → cond (well_lent answer) (carried_marks numbers claim) claim ≡ carried_claim numbers claim
    marks e k = lent-well answer _ claim e ∙ carried numbers claim (done_none answer o f e k)

-- ── The doors ──

-- a door that returns and leaves what the definitions say is such a call
pub strike-call : {words answer after left : List ℕ} {row r : ℕ} → (r ≡ door_returns answer) × ((after ≡ strike_door words row answer) × (left ≡ strike_door_words words row answer))
    → (r ≡ door_returns answer) × ((after ≡ strike_door words row answer) × ((left ≡ strike_door_words words row answer) × StrikeCall words row answer after left r))
strike-call {words} {answer} {row = row} (p, (q, s)) = (p, (q, (s, rw (p, q, s) (strike-door-means words row answer))))

pub merge-call : {t s : Working} {answer after : List ℕ} {r : ℕ} → (r ≡ door_returns answer) × ((after ≡ merge_door t answer) × (s ≡ merge_door_table t answer))
    → (r ≡ door_returns answer) × ((after ≡ merge_door t answer) × ((s ≡ merge_door_table t answer) × MergeCall t answer after s r))
merge-call {t} {answer = answer} (p, (q, s)) = (p, (q, (s, rw (p, q, s) (merge-door-means t answer))))

pub add-call : {t u : Working} {a b price : ℕ} {answer after : List ℕ} {r : ℕ} → (r ≡ door_returns answer) × ((after ≡ add_door t answer) × (u ≡ add_door_table t a b price answer))
    → (r ≡ door_returns answer) × ((after ≡ add_door t answer) × ((u ≡ add_door_table t a b price answer) × AddCall t a b price answer after u r))
add-call {t} {u} {a} {b} {price} {answer} {after} {r} h = (
  h.0,
  (
    h.1.0,
    (
      h.1.1,
      subst (λ x. AddCall t a b price answer after u x) (sym h.0)
          (subst (λ x. AddCall t a b price answer after x (door_returns answer)) (sym h.1.1)
          (subst (λ x. AddCall t a b price answer x (add_door_table t a b price answer) (door_returns answer)) (sym h.1.0) (add-door-means t a b price answer))),
    ),
  ),
)

pub carry-call : {numbers claim answer after marks : List ℕ} {r : ℕ} → (r ≡ door_returns answer) × ((after ≡ carry_door numbers claim answer) × (marks ≡ carry_door_marks numbers claim answer))
    → (r ≡ door_returns answer) × ((after ≡ carry_door numbers claim answer) × ((marks ≡ carry_door_marks numbers claim answer) × CarryCall numbers claim answer after marks r))
carry-call {numbers} {claim} {answer} (p, (q, s)) = (p, (q, (s, rw (p, q, s) (carry-door-means numbers claim answer))))
