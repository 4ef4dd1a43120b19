-- From the sixteen bytes of an answer to the exchanges of the claim: what a call through star_detours and star_work_detours returns and leaves, and what the bytes and the numbers mean.
-- The doors' contracts state it of themselves. c is the call's columns, whose rows are those in use, and numbers the lent column. Cites definitions alone; the proof is proofs/Bytes.antt. Assumes nothing.
use Rattle.std.specs.Prelude.{ℕ, ◌≤◌, length, List, ◌↔◌, ◌≡◌}
use Rattle.star_meaning.specs.Bytes.{Written, TableDeclined}
use Rattle.star_meaning.specs.Demand3.{ClaimTree, Fault}
use Rattle.star_spec.specs.Accepted.{AcceptedTable}
use Rattle.star_spec.specs.Call.{Call, claim_weight}
use Rattle.star_spec.specs.Door.{Fields, built_fields, read_back, door_returns}
use Rattle.detour_spec.specs.Detours.{lent_beside, detours}
use Rattle.detour_spec.specs.Door.{detours_door, detours_door_rows}
use Rattle.detour_spec.specs.Means.{DetoursMean}

-- the fields x of the answer and the numbers before and after, of an accepted table and a lent column of m numbers
pub record DetoursTold (c : Call) (x : Fields) (numbers rows : List ℕ) : Type 0 where
  -- kind 0 or 1
  pub kinds : x.kind ≤ 1
  -- kind 1: the claim is a spanning tree, the amount is its weight, and the numbers are its dearest rows and replacements
  pub told : (x.kind ≡ 1) ↔ ClaimTree c
  pub weight : x.kind ≡ 1 → x.amount ≡ claim_weight c
  pub means : x.kind ≡ 1 → DetoursMean c rows
  -- kind 0: the claim is no spanning tree, the number and the place say why, and the column is as it was
  pub declined : (x.kind ≡ 0) ↔ (ClaimTree c → ⊥)
  pub fault : x.kind ≡ 0 → Fault c (record { number = x.number; place = x.out })
  pub kept : x.kind ≡ 0 → rows ≡ numbers

-- a call: what it returns, the lent answer before and after, and the lent numbers before and after
pub record DetoursCall (c : Call) (numbers rows answer after : List ℕ) (returned : ℕ) : Type 0 where
  -- an answer of another length than sixteen bytes: 0 is returned, and nothing is written
  pub declined : (length answer ≡ 16 → ⊥) → (returned ≡ 0) × (after ≡ answer) × (rows ≡ numbers)
  -- sixteen bytes: 1 is returned, and the answer is written
  pub returns : length answer ≡ 16 → returned ≡ 1
  pub written : length answer ≡ 16 → Written after (built_fields (detours (lent_beside c numbers)))
  pub means : length answer ≡ 16 → AcceptedTable c → length numbers ≡ c.m → DetoursTold c (read_back after) numbers rows
  -- a table that is not accepted, or a column of another number of numbers than rows: kind 0, with a number of 1 to 4, or 15, and the column is as it was
  pub refused : length answer ≡ 16 → (AcceptedTable c × (length numbers ≡ c.m) → ⊥) → TableDeclined (read_back after) × (rows ≡ numbers)

-- the theorem: of every call through the two doors, whatever the columns, the numbers and the lent answer hold
abbrev pub DetoursDoorMeans : Type 0
DetoursDoorMeans = (c : Call) (numbers answer : List ℕ) → DetoursCall c numbers (detours_door_rows c numbers answer) answer (detours_door c numbers answer) (door_returns answer)
