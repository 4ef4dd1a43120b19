-- From the sixteen bytes of an answer to the forests and trees of the table: what a call through star_districts and star_work_districts returns and leaves, and what the bytes and both columns mean.
-- The doors' contracts state it of themselves. c is the call's columns, whose rows are those in use, F the forests' column before the call, and ends the last positions of the runs.
-- Cites definitions alone; the proof is proofs/Bytes.antt. Assumes nothing.
use Rattle.std.specs.Prelude.{ℕ, ◌≤◌, List, ◌↔◌, ◌⊎◌, ◌≡◌, length}
use Rattle.star_meaning.specs.Bytes.{Written}
use Rattle.star_meaning.specs.Demand3.{ClaimTree}
use Rattle.star_spec.specs.Call.{Call, with_claim}
use Rattle.star_spec.specs.Door.{Fields, built_fields, read_back, door_returns}
use Rattle.districts_spec.specs.Districts.{districts_answer}
use Rattle.districts_spec.specs.Door.{districts_door, districts_door_forests, districts_door_marks}
use Rattle.districts_spec.specs.Means.{Taken, City}

-- the fields x of the answer and the two columns afterwards, where what is handed in is taken
pub record CityMeans (c : Call) (F ends : List ℕ) (x : Fields) (forests marks : List ℕ) : Type 0 where
  -- kind 1: there is a spanning tree; both columns are written, and the amount is the weight of the tree
  pub built : (x.kind ≡ 1) ↔ ((other : List ℕ) × ClaimTree (with_claim c other))
  pub city : x.kind ≡ 1 → City c forests marks ends x.amount
  -- kind 0: there is none; the number is 11, the place 0, and both columns are as they were
  pub declined : (x.kind ≡ 0) ↔ ((other : List ℕ) → ClaimTree (with_claim c other) → ⊥)
  pub number : x.kind ≡ 0 → (x.number ≡ 11) × (x.out ≡ 0)
  pub kept : x.kind ≡ 0 → (forests ≡ F) × (marks ≡ c.mark)

-- what is handed in is not taken: kind 0, with a number of 1 to 4, 14 or 15
pub record RunsDeclined (x : Fields) : Type 0 where
  pub kind : x.kind ≡ 0
  pub number : (((1 ≤ x.number) × (x.number ≤ 4)) ⊎ (x.number ≡ 15)) ⊎ (x.number ≡ 14)

-- a call: what it returns, the lent answer before and after, and the two columns afterwards
pub record DistrictsCall (c : Call) (F ends answer after forests marks : List ℕ) (returned : ℕ) : Type 0 where
  -- an answer of another length than sixteen bytes: 0 is returned, and nothing is written
  pub declined : (length answer ≡ 16 → ⊥) → (returned ≡ 0) × (after ≡ answer) × (forests ≡ F) × (marks ≡ c.mark)
  -- sixteen bytes: 1 is returned, and the answer is written
  pub returns : length answer ≡ 16 → returned ≡ 1
  pub written : length answer ≡ 16 → Written after (built_fields (districts_answer c F ends))
  pub means : length answer ≡ 16 → Taken c F ends → CityMeans c F ends (read_back after) forests marks
  pub refused : length answer ≡ 16 → (Taken c F ends → ⊥) → RunsDeclined (read_back after) × (forests ≡ F) × (marks ≡ c.mark)

-- the theorem: of every call through the two doors, whatever the columns, the ends and the lent answer hold
abbrev pub DistrictsDoorMeans : Type 0
DistrictsDoorMeans =
    (c : Call) (F ends answer : List ℕ)
    → DistrictsCall c F ends answer (districts_door c F ends answer) (districts_door_forests c F ends answer) (districts_door_marks c F ends answer) (door_returns answer)
