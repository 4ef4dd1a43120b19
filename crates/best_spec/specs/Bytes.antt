-- From the twenty-four bytes of an answer to the exchanges of the claim: what a call through star_best and star_work_best returns and leaves, and what the bytes mean.
-- The doors' contracts state it of themselves. c is the call's columns, whose rows are those in use. Cites definitions alone; the proof is proofs/Bytes.antt. Assumes nothing.
use Rattle.std.specs.Prelude.{ℕ, ◌≤◌, ℤ, pos, ◌+ℤ◌, length, take, ◌≤ℤ◌, List, ◌↔◌, ◌≡◌}
use Rattle.rowset.specs.Bytes.{little}
use Rattle.rowset.specs.Integers.{from_bits}
use Rattle.star_meaning.specs.Bytes.{Written, TableDeclined}
use Rattle.star_meaning.specs.Demand3.{ClaimTree, LeastClaim, Fault}
use Rattle.star_spec.specs.Accepted.{AcceptedTable}
use Rattle.star_spec.specs.Call.{Call, claim_weight}
use Rattle.star_spec.specs.Door.{Fields, read_back}
use Rattle.best_spec.specs.Best.{BestAnswer, best}
use Rattle.best_spec.specs.Door.{best_fields, least_of, best_returns, best_door}
use Rattle.best_spec.specs.Means.{BestSwap, LeastIs}

-- bytes 16 to 23
abbrev pub least_read : List ℕ → ℤ
least_read l = from_bits 64 (little l 16 8)

-- what is left of a lent answer of twenty-four bytes: the first sixteen are an answer's as every door writes it, and the last eight the least total, nothing of it cut off
pub record BestWritten (after : List ℕ) (answer : BestAnswer) : Type 0 where
  pub twenty-four : length after ≡ 24
  pub first : Written (take 16 after) (best_fields answer)
  pub least : least_read after ≡ least_of answer

-- the fields x of the answer and the least total, of an accepted table
pub record BestTold (c : Call) (x : Fields) (least : ℤ) : Type 0 where
  -- kind 0, 1 or 2
  pub kinds : x.kind ≤ 2
  -- kind 1: the claim is least: no exchange saves; the amount is its weight
  pub none : (x.kind ≡ 1) ↔ LeastClaim c
  pub weight : x.kind ≡ 1 → x.amount ≡ claim_weight c
  -- kind 2: the claim is a spanning tree and not least, and the exchange of row out for row in is the best of all, by the amount
  pub found : (x.kind ≡ 2) ↔ (ClaimTree c × (LeastClaim c → ⊥))
  pub best : x.kind ≡ 2 → (saved : ℕ) × (x.amount ≡ pos saved) × BestSwap c x.out x.into saved
  -- in both the least total is that of the table's spanning trees, and what the claim weighs above it is the most that any change saves
  pub total : (x.kind ≡ 0 → ⊥) → LeastIs c least × (least ≤ℤ claim_weight c)
  -- kind 0: the claim is no spanning tree, and the number and the place say why
  pub declined : (x.kind ≡ 0) ↔ (ClaimTree c → ⊥)
  pub fault : x.kind ≡ 0 → Fault c (record { number = x.number; place = x.out })

-- a call: what it returns, and the lent answer before and after
pub record BestCall (c : Call) (answer after : List ℕ) (returned : ℕ) : Type 0 where
  -- an answer of another length than twenty-four bytes: 0 is returned, and nothing is written
  pub declined : (length answer ≡ 24 → ⊥) → (returned ≡ 0) × (after ≡ answer)
  -- twenty-four bytes: 1 is returned, and the answer is written
  pub returns : length answer ≡ 24 → returned ≡ 1
  pub written : length answer ≡ 24 → BestWritten after (best c)
  pub means : length answer ≡ 24 → AcceptedTable c → BestTold c (read_back after) (least_read after)
  -- a table that is not accepted: kind 0 with a number of 1 to 4, or 15, and no least total
  pub refused : length answer ≡ 24 → (AcceptedTable c → ⊥) → TableDeclined (read_back after) × (least_read after ≡ pos 0)

-- the theorem: of every call through the two doors, whatever the columns and the lent answer hold
abbrev pub BestDoorMeans : Type 0
BestDoorMeans = (c : Call) (answer : List ℕ) → BestCall c answer (best_door c answer) (best_returns answer)
