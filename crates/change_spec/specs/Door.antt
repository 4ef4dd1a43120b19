-- The doors of a working table: the sixteen bytes of an answer, and the lent words, columns and numbers afterwards.
-- An answer of another length than sixteen bytes leaves everything as it was. Assumes nothing.
use Rattle.std.specs.Prelude.{ℕ, cond, List, pos}
use Rattle.std.proofs.Math.Option.{some}
use Rattle.star_spec.specs.Door.{Fields, outcome_fields, well_lent, answer_after}
use Rattle.change_spec.specs.Carrying.{carry_refusal, carried_marks}
use Rattle.change_spec.specs.Changes.{AddAnswer, unadded, added_at, struck_words, merged, added, add_answer}
use Rattle.change_spec.specs.Tables.{Working, strike_refusal, merge_refusal}

-- the fields of an add's answer: kind 1 has the new row's position for its amount; a refusal is told as CST's
unfoldable pub add_fields : AddAnswer → Fields
add_fields (unadded r) = outcome_fields (some r)
add_fields (added_at position) = record { kind = 1; number = 0; out = 0; into = 0; only = 0; amount = pos position }

-- striking: the answer and the words
unfoldable pub strike_door : (words : List ℕ) → (row : ℕ) → (answer : List ℕ) → List ℕ
strike_door words row answer = answer_after answer (outcome_fields (strike_refusal words row))

unfoldable pub strike_door_words : (words : List ℕ) → (row : ℕ) → (answer : List ℕ) → List ℕ
strike_door_words words row answer = cond (well_lent answer) (struck_words words row) words

-- MERGE: the answer and the table
unfoldable pub merge_door : Working → (answer : List ℕ) → List ℕ
merge_door t answer = answer_after answer (outcome_fields (merge_refusal t))

unfoldable pub merge_door_table : Working → (answer : List ℕ) → Working
merge_door_table t answer = cond (well_lent answer) (merged t) t

-- adding a row: the answer and the table
unfoldable pub add_door : Working → (answer : List ℕ) → List ℕ
add_door t answer = answer_after answer (add_fields (add_answer t))

unfoldable pub add_door_table : Working → (a b price : ℕ) → (answer : List ℕ) → Working
add_door_table t a b price answer = cond (well_lent answer) (added t a b price) t

-- carrying a claim: the answer and the claim
unfoldable pub carry_door : (numbers claim answer : List ℕ) → List ℕ
carry_door numbers claim answer = answer_after answer (outcome_fields (carry_refusal numbers claim))

unfoldable pub carry_door_marks : (numbers claim answer : List ℕ) → List ℕ
carry_door_marks numbers claim answer = cond (well_lent answer) (carried_marks numbers claim) claim
