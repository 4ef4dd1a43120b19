-- A row of a working table put back into use: the inverse of striking it. Only the row's place among the rows in use changes. The row has the ends and the price that stand in its place in the columns, which are not looked at, as those of an add are not.
-- An answer of another length than sixteen bytes leaves everything as it was. Assumes nothing.
use Rattle.std.specs.Prelude.{ℕ, Bool, cond, ◌||◌, List, [], ◌∷◌, eqb, ltb, length}
use Rattle.std.proofs.Math.Option.{Option}
use Rattle.change_spec.specs.Changes.{afterwards, words_of}
use Rattle.change_spec.specs.Tables.{wrong_words}
use Rattle.refusal.specs.declared.Refusal.{Refusal}
use Rattle.rowset.specs.Sets.{put}
use Rattle.rowset.specs.Words.{in_words}
use Rattle.star_spec.specs.Door.{outcome_fields, well_lent, answer_after}
use Rattle.star_spec.specs.Refusals.{max_rows, cause, refusal}

-- the row is in use already, or none of 1 to 1,024
abbrev pub not_struck : (used : Bool) → ℕ → Bool
not_struck used row = used || eqb row 0 || ltb max_rows row

-- 27: so; then 3: the words are not sixteen
unfoldable pub restore_refusal : (words : List ℕ) → ℕ → Option Refusal
restore_refusal words row = refusal (cause (not_struck (in_words words row) row) 27 0 ∷ cause (wrong_words (length words)) 3 0 ∷ [])

-- the words after a row is restored: only its bit is set; a refusal changes nothing
unfoldable pub restored_words : List ℕ → ℕ → List ℕ
restored_words words row = afterwards (restore_refusal words row) (words_of (put (in_words words) row)) words

-- the door: the answer and the words
unfoldable pub restore_door : (words : List ℕ) → (row : ℕ) → (answer : List ℕ) → List ℕ
restore_door words row answer = answer_after answer (outcome_fields (restore_refusal words row))

unfoldable pub restore_door_words : (words : List ℕ) → (row : ℕ) → (answer : List ℕ) → List ℕ
restore_door_words words row answer = cond (well_lent answer) (restored_words words row) words
