-- From the sixteen bytes of an answer to the table that was read: what a call through the door star_import returns and leaves, and what that means.
-- The door's contract states it of itself. left, right and weight are the columns that are lent, and left', right' and weight' what they are afterwards.
-- Cites definitions alone; the proof is proofs/Bytes.antt. Assumes nothing.
use Rattle.std.specs.Prelude.{ℕ, ◌*◌, ◌≤◌, pos, length, take, drop, List, ◌↔◌, ◌≡◌}
use Rattle.refusal.specs.declared.Refusal.{Refusal}
use Rattle.star_spec.specs.Accepted.{AcceptedTable}
use Rattle.star_spec.specs.Call.{call_of}
use Rattle.star_spec.specs.Door.{read_back, door_returns}
use Rattle.star_spec.specs.Refusals.{max_rows}
use Rattle.stp_spec.specs.Door.{import_door, left_door, right_door, weight_door}
use Rattle.stp_spec.specs.Import.{ImportAnswer, untaken, taken, imported, read_text, columns_of}

-- what the import of the text into the lent columns answers
abbrev pub import_of : (text left right weight : List ℕ) → ImportAnswer
import_of text left right weight = imported text (length left) (length right) (length weight)

-- the text is read: n is told, and m rows stand at the top of the columns
pub record ReadMeans (text left right weight left' right' weight' : List ℕ) (n m : ℕ) : Type 0 where
  -- with any claim of m bytes these rows are an accepted table
  pub table : (claim : List ℕ) → length claim ≡ m → AcceptedTable (call_of n (take m left') (take m right') (take (4 * m) weight') claim)
  pub few-rows : m ≤ max_rows
  -- n is what Nodes says, m both what Edges says and the number of E lines, and the rows are theirs, in file order
  pub nodes-said : n ≡ (columns_of (read_text text)).nodes
  pub edges-said : m ≡ (columns_of (read_text text)).edges
  pub lines-read : m ≡ (columns_of (read_text text)).rows
  pub left-rows : take m left' ≡ (columns_of (read_text text)).left
  pub right-rows : take m right' ≡ (columns_of (read_text text)).right
  pub weight-rows : take (4 * m) weight' ≡ (columns_of (read_text text)).weight
  -- the rows past m are as they were
  pub left-kept : drop m left' ≡ drop m left
  pub right_kept : drop m right' ≡ drop m right
  pub weight-kept : drop (4 * m) weight' ≡ drop (4 * m) weight

-- a call of star_import: the lent answer and columns before and after, and what it returns
pub record ImportCall (text left right weight answer after left' right' weight' : List ℕ) (returned : ℕ) : Type 0 where
  -- an answer of another length than sixteen bytes: 0 is returned, and nothing is written
  pub declined : (length answer ≡ 16 → ⊥) → (returned ≡ 0) × (after ≡ answer) × (left' ≡ left) × (right' ≡ right) × (weight' ≡ weight)
  -- sixteen bytes: 1 is returned, and sixteen bytes are written
  pub returns : length answer ≡ 16 → (returned ≡ 1) × (length after ≡ 16)
  -- kind 1 exactly where the text is taken; then n and m are told, and what was read is an accepted table
  pub told : length answer ≡ 16 → ((read_back after).kind ≡ 1) ↔ ((n m : ℕ) × (import_of text left right weight ≡ taken n m))
  pub read : length answer ≡ 16 → (read_back after).kind ≡ 1 → ReadMeans text left right weight left' right' weight' (read_back after).out (read_back after).into
  -- kind 0 with the number of the refusal, and its place in bytes 8 to 15; no column is changed
  pub refused : length answer ≡ 16 → (r : Refusal) → import_of text left right weight ≡ untaken r → ((read_back after).kind ≡ 0) × ((read_back after).number ≡ r.number)
  pub place : length answer ≡ 16 → (r : Refusal) → import_of text left right weight ≡ untaken r → (read_back after).amount ≡ pos r.place
  pub kept : length answer ≡ 16 → ((read_back after).kind ≡ 1 → ⊥) → (left' ≡ left) × (right' ≡ right) × (weight' ≡ weight)

-- the theorem: of every call through the door, whatever the text, the columns and the lent answer hold
abbrev pub ImportDoorMeans : Type 0
ImportDoorMeans =
    (text left right weight answer : List ℕ)
    → ImportCall text left right weight answer (import_door text left right weight answer) (left_door text left right weight answer) (right_door text left right weight answer)
    (weight_door text left right weight answer) (door_returns answer)
