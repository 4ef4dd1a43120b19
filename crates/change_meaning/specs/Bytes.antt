-- From the sixteen bytes of an answer to the working table: what a call through the doors star_strike, star_merge, star_add and star_carry returns and leaves, and what that means.
-- The doors' contracts state it of themselves. t is the working table that is lent, and the one after it what is left of it.
-- Cites definitions alone; the proof is proofs/Bytes.antt. Assumes nothing.
use Rattle.std.specs.Prelude.{ℕ, ◌*◌, ◌<◌, ℤ, pos, length, Bool, true, false, List, ◌↔◌, ◌≡◌}
use Rattle.star_meaning.specs.Bytes.{Written}
use Rattle.change_meaning.specs.Packing.{call_on, Keeps, without_row}
use Rattle.rowset.specs.Sets.{take_out, count}
use Rattle.rowset.specs.Words.{column_words, in_words}
use Rattle.star_spec.specs.Accepted.{AcceptedTable}
use Rattle.star_spec.specs.Cst.{passed, cst}
use Rattle.star_spec.specs.Door.{outcome_fields, read_back, door_returns}
use Rattle.star_spec.specs.Refusals.{max_rows}
use Rattle.change_spec.specs.Carrying.{carried_claim, carry_refusal}
use Rattle.change_spec.specs.Changes.{add_answer}
use Rattle.change_spec.specs.Door.{add_fields, strike_door, strike_door_words, merge_door, merge_door_table, add_door, add_door_table, carry_door, carry_door_marks}
use Rattle.change_spec.specs.Meaning.{MergesTo, AddsTo, Unpacked}
use Rattle.change_spec.specs.Tables.{Working, in_use, strike_refusal, merge_refusal}

-- kind 1; and a refusal with place 0
abbrev pub IsDone : List ℕ → Type 0
IsDone after = (read_back after).kind ≡ 1

abbrev pub Declined : List ℕ → ℕ → Type 0
Declined after number = ((read_back after).kind ≡ 0) × ((read_back after).number ≡ number) × ((read_back after).out ≡ 0)

-- the parts of a working table have the lengths that they should
pub record RightSizes (t : Working) : Type 0 where
  pub words : length t.words ≡ column_words
  pub left : length t.left ≡ max_rows
  pub right : length t.right ≡ max_rows
  pub weight : length t.weight ≡ 4 * max_rows
  pub numbers : length t.numbers ≡ max_rows

-- ── Striking ──

-- a call of star_strike with these words and this row: the lent answer before and after, the words afterwards, and what it returns
pub record StrikeCall (words : List ℕ) (row : ℕ) (answer after left : List ℕ) (returned : ℕ) : Type 0 where
  -- an answer of another length than sixteen bytes: 0 is returned, and nothing is written
  pub declined : (length answer ≡ 16 → ⊥) → (returned ≡ 0) × (after ≡ answer) × (left ≡ words)
  -- sixteen bytes: 1 is returned, and the answer is written
  pub returns : length answer ≡ 16 → returned ≡ 1
  pub written : length answer ≡ 16 → Written after (outcome_fields (strike_refusal words row))
  -- done exactly where the row is in use and the words are sixteen: then the row is taken out of those in use, and no other
  pub told : length answer ≡ 16 → IsDone after ↔ ((in_words words row ≡ true) × (length words ≡ column_words))
  pub struck : length answer ≡ 16 → IsDone after → (length left ≡ column_words) × (in_words left ≡ take_out (in_words words) row)
  -- 18: the row is not in use; then 3: the words are not sixteen; the words stay
  pub not-in-use : length answer ≡ 16 → in_words words row ≡ false → Declined after 18 × (left ≡ words)
  pub wrong-words : length answer ≡ 16 → in_words words row ≡ true → (length words ≡ column_words → ⊥) → Declined after 3 × (left ≡ words)

-- ── MERGE ──

-- a call of star_merge with the table t; s is the table afterwards
pub record MergeCall (t : Working) (answer after : List ℕ) (s : Working) (returned : ℕ) : Type 0 where
  pub declined : (length answer ≡ 16 → ⊥) → (returned ≡ 0) × (after ≡ answer) × (s ≡ t)
  pub returns : length answer ≡ 16 → returned ≡ 1
  pub written : length answer ≡ 16 → Written after (outcome_fields (merge_refusal t))
  -- done exactly where every length is right: then the rows in use are packed
  pub told : length answer ≡ 16 → IsDone after ↔ RightSizes t
  pub merges : length answer ≡ 16 → IsDone after → MergesTo t s
  -- no least total changes, and a passed claim that is carried through the numbers of s is passed again
  pub keeps : length answer ≡ 16 → IsDone after → (n : ℕ) (claim : List ℕ) → AcceptedTable (call_on n t claim) → Keeps n t s claim
  -- 3: a length is wrong; the table stays
  pub wrong-sizes : length answer ≡ 16 → (RightSizes t → ⊥) → Declined after 3 × (s ≡ t)

-- ── Adding ──

-- a row of ends a and b and this price is added to t at position i, which gives u
pub record AddMeans (t : Working) (a b price : ℕ) (u : Working) (i : ℕ) : Type 0 where
  -- the table that it is added to: packed as by MERGE where row 1,024 is in use, else as it is, with each row's own position for its number
  pub room : Working
  pub packs : in_use t max_rows ≡ true → MergesTo t room
  pub stays : in_use t max_rows ≡ false → Unpacked t room
  pub adds : AddsTo room u i a b price
  -- of the earlier rows no least total changes, and a passed claim that is carried through the numbers is passed again
  pub keeps : (n : ℕ) (claim : List ℕ) → AcceptedTable (call_on n t claim) → Keeps n t (without_row u i) claim

-- a call of star_add with the table t; u is the table afterwards
pub record AddCall (t : Working) (a b price : ℕ) (answer after : List ℕ) (u : Working) (returned : ℕ) : Type 0 where
  pub declined : (length answer ≡ 16 → ⊥) → (returned ≡ 0) × (after ≡ answer) × (u ≡ t)
  pub returns : length answer ≡ 16 → returned ≡ 1
  pub written : length answer ≡ 16 → Written after (add_fields (add_answer t))
  -- done exactly where a row is free and every length is right: then the amount is the new row's position
  pub told : length answer ≡ 16 → IsDone after ↔ ((count max_rows (in_use t) < max_rows) × RightSizes t)
  pub added : length answer ≡ 16 → IsDone after → (i : ℕ) × ((read_back after).amount ≡ pos i) × AddMeans t a b price u i
  -- 17: all rows are in use; then 3: a length is wrong; the table stays
  pub full : length answer ≡ 16 → count max_rows (in_use t) ≡ max_rows → Declined after 17 × (u ≡ t)
  pub wrong-sizes : length answer ≡ 16 → count max_rows (in_use t) < max_rows → (RightSizes t → ⊥) → Declined after 3 × (u ≡ t)

-- ── Carrying ──

-- a call of star_carry with these numbers and this claim; marks is the claim afterwards
pub record CarryCall (numbers claim answer after marks : List ℕ) (returned : ℕ) : Type 0 where
  pub declined : (length answer ≡ 16 → ⊥) → (returned ≡ 0) × (after ≡ answer) × (marks ≡ claim)
  pub returns : length answer ≡ 16 → returned ≡ 1
  pub written : length answer ≡ 16 → Written after (outcome_fields (carry_refusal numbers claim))
  -- done exactly where there are 1,024 numbers and 1,024 bytes: then each byte is at the position that its row's number names, and 0 elsewhere
  pub told : length answer ≡ 16 → IsDone after ↔ ((length numbers ≡ max_rows) × (length claim ≡ max_rows))
  pub carried : length answer ≡ 16 → IsDone after → marks ≡ carried_claim numbers claim
  -- where s is what MERGE or an add has made of t, and the numbers are its own, a passed claim over t is passed over s, with its weight and its yes or no
  pub passes : length answer ≡ 16 → IsDone after → (n : ℕ) (t s : Working) → Keeps n t s claim → s.numbers ≡ numbers
      → (weight : ℤ) (alone : Bool) → cst (call_on n t claim) ≡ passed weight alone → cst (call_on n s marks) ≡ passed weight alone
  -- 3: a length is wrong; the claim stays
  pub wrong-sizes : length answer ≡ 16 → ((length numbers ≡ max_rows) × (length claim ≡ max_rows) → ⊥) → Declined after 3 × (marks ≡ claim)

-- the theorem: of every call through the four doors, whatever is lent
abbrev pub StrikeDoorMeans : Type 0
StrikeDoorMeans = (words : List ℕ) (row : ℕ) (answer : List ℕ) → StrikeCall words row answer (strike_door words row answer) (strike_door_words words row answer) (door_returns answer)

abbrev pub MergeDoorMeans : Type 0
MergeDoorMeans = (t : Working) (answer : List ℕ) → MergeCall t answer (merge_door t answer) (merge_door_table t answer) (door_returns answer)

abbrev pub AddDoorMeans : Type 0
AddDoorMeans =
    (t : Working) (a b price : ℕ) (answer : List ℕ) → AddCall t a b price answer (add_door t answer) (add_door_table t a b price answer) (door_returns answer)

abbrev pub CarryDoorMeans : Type 0
CarryDoorMeans = (numbers claim answer : List ℕ) → CarryCall numbers claim answer (carry_door numbers claim answer) (carry_door_marks numbers claim answer) (door_returns answer)
