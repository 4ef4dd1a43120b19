-- From the sixteen bytes of an answer to the groups and rings of the marks: what a call through star_groups and star_work_groups returns and leaves, and what the bytes and both columns mean.
-- The doors' contracts state it of themselves. c is the call's columns, G and Z the groups' and the rings' column before the call.
-- Cites definitions alone; the proof is proofs/Bytes.antt. Assumes nothing.
use Rattle.std.specs.Prelude.{ℕ, ◌≤◌, pos, length, List, ◌↔◌, ◌⊎◌, ◌≡◌}
use Rattle.groups_spec.specs.Door.{groups_fields, groups_door, groups_door_groups, groups_door_rings}
use Rattle.groups_spec.specs.Groups.{groups_answer}
use Rattle.groups_spec.specs.Means.{Taken, GroupsTold}
use Rattle.star_meaning.specs.Bytes.{Written}
use Rattle.star_spec.specs.Call.{Call}
use Rattle.star_spec.specs.Door.{Fields, read_back, door_returns}

-- what is handed in is not taken: kind 0, with a number of 1 to 4, 15 or 6
pub record Declined (x : Fields) : Type 0 where
  pub kind : x.kind ≡ 0
  pub number : (((1 ≤ x.number) × (x.number ≤ 4)) ⊎ (x.number ≡ 15)) ⊎ (x.number ≡ 6)

-- a call: what it returns, the lent answer before and after, and the two columns afterwards
pub record GroupsCall (c : Call) (G Z answer after groups rings : List ℕ) (returned : ℕ) : Type 0 where
  -- an answer of another length than sixteen bytes: 0 is returned, and nothing is written
  pub declined : (length answer ≡ 16 → ⊥) → (returned ≡ 0) × (after ≡ answer) × (groups ≡ G) × (rings ≡ Z)
  -- sixteen bytes: 1 is returned, and the answer is written
  pub returns : length answer ≡ 16 → returned ≡ 1
  pub written : length answer ≡ 16 → Written after (groups_fields (groups_answer c G Z))
  -- kind 1 exactly where what is handed in is taken; then both columns are written, the amount is the number of groups, and bytes 4 and 5 are the number of rows that close a ring
  pub told : length answer ≡ 16 → ((read_back after).kind ≡ 1) ↔ Taken c G Z
  pub means : length answer ≡ 16 → (read_back after).kind ≡ 1 → (number : ℕ) × ((read_back after).amount ≡ pos number) × GroupsTold c groups rings number (read_back after).into
  -- kind 0 in every other answer, and both columns are as they were
  pub refused : length answer ≡ 16 → ((read_back after).kind ≡ 1 → ⊥) → Declined (read_back after) × (groups ≡ G) × (rings ≡ Z)

-- the theorem: of every call through the two doors, whatever the columns and the lent answer hold
abbrev pub GroupsDoorMeans : Type 0
GroupsDoorMeans =
    (c : Call) (G Z answer : List ℕ) → GroupsCall c G Z answer (groups_door c G Z answer) (groups_door_groups c G Z answer) (groups_door_rings c G Z answer) (door_returns answer)
