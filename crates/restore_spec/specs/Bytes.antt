-- From the sixteen bytes of an answer to the rows in use: what a call through the door star_restore returns and leaves, and what that means.
-- The door's contract states it of itself. It is lent the words alone, so that no byte of a column changes.
-- Cites definitions alone; the proof is proofs/Bytes.antt. Assumes nothing.
use Rattle.std.specs.Prelude.{ℕ, ◌^◌, ◌<◌, ◌≤◌, length, get_or, true, false, List, ◌↔◌, ◌≡◌}
use Rattle.change_meaning.specs.Bytes.{IsDone, Declined}
use Rattle.change_spec.specs.Changes.{struck_words}
use Rattle.restore_spec.specs.Restoring.{restore_refusal, restore_door, restore_door_words}
use Rattle.rowset.specs.Sets.{put}
use Rattle.rowset.specs.Words.{column_words, in_words}
use Rattle.star_meaning.specs.Bytes.{Written}
use Rattle.star_spec.specs.Door.{outcome_fields, door_returns}
use Rattle.star_spec.specs.Refusals.{max_rows}

-- the row is one of 1 to 1,024, and not in use
abbrev pub Struck : List ℕ → ℕ → Type 0
Struck words row = (1 ≤ row) × (row ≤ max_rows) × (in_words words row ≡ false)

-- sixteen words of 64 bits
abbrev pub Sixteen : List ℕ → Type 0
Sixteen words = (length words ≡ column_words) × ((k : ℕ) → get_or words k 0 < 2 ^ 64)

-- a call of star_restore with these words and this row: the lent answer before and after, the words afterwards, and what it returns
pub record RestoreCall (words : List ℕ) (row : ℕ) (answer after left : List ℕ) (returned : ℕ) : Type 0 where
  -- an answer of another length than sixteen bytes: 0 is returned, and nothing is written
  pub declined : (length answer ≡ 16 → ⊥) → (returned ≡ 0) × (after ≡ answer) × (left ≡ words)
  -- sixteen bytes: 1 is returned, and the answer is written
  pub returns : length answer ≡ 16 → returned ≡ 1
  pub written : length answer ≡ 16 → Written after (outcome_fields (restore_refusal words row))
  -- done exactly where the row is struck and the words are sixteen: then the row is put to those in use, and no other
  pub told : length answer ≡ 16 → IsDone after ↔ (Struck words row × (length words ≡ column_words))
  pub restored : length answer ≡ 16 → IsDone after → (length left ≡ column_words) × (in_words left ≡ put (in_words words) row)
  -- where the words are those that striking the row has left of others, these come back, word by word
  pub gives_back : length answer ≡ 16 → IsDone after → (others : List ℕ) → Sixteen others → in_words others row ≡ true → words ≡ struck_words others row → left ≡ others
  -- and striking the row again gives the words of before
  pub struck-again : length answer ≡ 16 → IsDone after → Sixteen words → struck_words left row ≡ words
  -- 27: the row is in use, or none of 1 to 1,024; then 3: the words are not sixteen; the words stay
  pub not-struck : length answer ≡ 16 → (Struck words row → ⊥) → Declined after 27 × (left ≡ words)
  pub wrong-words : length answer ≡ 16 → Struck words row → (length words ≡ column_words → ⊥) → Declined after 3 × (left ≡ words)

-- the theorem: of every call through the door, whatever is lent
abbrev pub RestoreDoorMeans : Type 0
RestoreDoorMeans = (words : List ℕ) (row : ℕ) (answer : List ℕ) → RestoreCall words row answer (restore_door words row answer) (restore_door_words words row answer) (door_returns answer)
