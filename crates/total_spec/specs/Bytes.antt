-- From the sixteen bytes of an answer to the marked rows: what a call through the doors star_total and star_work_total returns and leaves, and what the bytes mean.
-- The doors' contracts state it of themselves. c is the call's columns, plain or working, with the claim.
-- Cites definitions alone; the proof is proofs/Bytes.antt. Assumes nothing.
use Rattle.std.specs.Prelude.{ℕ, ◌≤◌, ◌<◌, List, ◌↔◌, ◌≡◌, length}
use Rattle.rowset.specs.Bytes.{in_row}
use Rattle.rowset.specs.Integers.{signed, total}
use Rattle.star_meaning.specs.Bytes.{Written, TableDeclined}
use Rattle.star_meaning.specs.Demand3.{ZeroOrOne}
use Rattle.star_spec.specs.Accepted.{AcceptedTable, Row}
use Rattle.star_spec.specs.Call.{Call, claimed}
use Rattle.star_spec.specs.Door.{Fields, read_back, door_returns}
use Rattle.total_spec.specs.Total.{claim_total, total_fields, total_door}

-- refused 6: the byte of the row that is named, a row in use, is neither 0 nor 1, and no such row stands above it
pub record BadByte (c : Call) (x : Fields) : Type 0 where
  pub kind : x.kind ≡ 0
  pub number : x.number ≡ 6
  pub row : Row c x.out
  pub byte : 1 < in_row 1 c.mark x.out
  pub above : (k : ℕ) → Row c k → k < x.out → in_row 1 c.mark k ≤ 1

-- a call with the columns c: what it returns, and the lent answer before and after
pub record TotalCall (c : Call) (answer after : List ℕ) (returned : ℕ) : Type 0 where
  -- an answer of another length than sixteen bytes: 0 is returned, and nothing is written
  pub declined : (length answer ≡ 16 → ⊥) → (returned ≡ 0) × (after ≡ answer)
  -- sixteen bytes: 1 is returned, and the answer is written
  pub returns : length answer ≡ 16 → returned ≡ 1
  pub written : length answer ≡ 16 → Written after (total_fields (claim_total c))
  -- kind 1 exactly where the table is accepted and the bytes at rows in use are 0 and 1: the amount is the sum of the signed prices of the rows in use whose byte is 1
  pub told : length answer ≡ 16 → ((read_back after).kind ≡ 1) ↔ (AcceptedTable c × ZeroOrOne c)
  pub sum : length answer ≡ 16 → (read_back after).kind ≡ 1 → (read_back after).amount ≡ total c.m (λ i. signed (in_row 4 c.weight i)) (claimed c)
  -- kind 0 in every other answer
  pub bad-byte : length answer ≡ 16 → AcceptedTable c → (ZeroOrOne c → ⊥) → BadByte c (read_back after)
  pub refused : length answer ≡ 16 → (AcceptedTable c → ⊥) → TableDeclined (read_back after)

-- the theorem: of every call through the two doors, whatever the columns and the lent answer hold
abbrev pub TotalDoorMeans : Type 0
TotalDoorMeans = (c : Call) (answer : List ℕ) → TotalCall c answer (total_door c answer) (door_returns answer)
