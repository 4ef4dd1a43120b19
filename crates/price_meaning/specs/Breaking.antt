-- From the sixteen bytes of a breaking price to the routes of the table: what a call through star_breaking and star_work_breaking returns and leaves, and what the bytes mean.
-- The doors' contracts state it of themselves. c is the call's columns, whose rows are those in use, and k the row asked about.
-- Cites definitions alone; the proof is proofs/Breaking.antt. Assumes nothing.
use Rattle.std.specs.Prelude.{ℕ, List, ◌↔◌, ◌≡◌, ℤ, pos, ◌-ℤ◌, length}
use Rattle.star_meaning.specs.Bytes.{Written, TableDeclined}
use Rattle.graph_theory.specs.Graph.{Connected}
use Rattle.price_theory.specs.Breaking.{Route, LeastHeaviest, lesser}
use Rattle.price_spec.specs.Breaking.{breaking_price}
use Rattle.price_spec.specs.Door.{breaking_fields, breaking_door}
use Rattle.price_spec.specs.Quote.{quoted, quote}
use Rattle.rowset.specs.Integers.{signed}
use Rattle.star_spec.specs.Accepted.{AcceptedTable, Row}
use Rattle.star_spec.specs.Call.{Call, graph_of, weight_of}
use Rattle.star_spec.specs.Door.{Fields, read_back, door_returns}

-- the fields x of the answer, over an accepted table and a row in use
pub record BreaksMean (c : Call) (k : ℕ) (x : Fields) : Type 0 where
  -- kind 1: the table is connected, and some route between the row's ends avoids it; the amount is the least possible heaviest row of such a route
  pub found : (x.kind ≡ 1) ↔ (Connected (graph_of c) × Route (graph_of c) k)
  pub least : x.kind ≡ 1 → LeastHeaviest (graph_of c) (weight_of c) k x.amount
  -- kind 2: the table is connected, and no route avoids the row; all else is 0
  pub never : (x.kind ≡ 2) ↔ (Connected (graph_of c) × (Route (graph_of c) k → ⊥))
  pub zeros : x.kind ≡ 2 → (x.number ≡ 0) × (x.out ≡ 0) × (x.into ≡ 0) × (x.only ≡ 0) × (x.amount ≡ pos 0)
  -- kind 0: the table is not connected; the number is 11 and the place 0
  pub declined : (x.kind ≡ 0) ↔ (Connected (graph_of c) → ⊥)
  pub number : x.kind ≡ 0 → (x.number ≡ 11) × (x.out ≡ 0)
  -- the least totals that are quoted for the new price y: they move by exactly min(new, amount) − min(old, amount), and where there is none by new − old
  pub exact : x.kind ≡ 1 → (y : ℕ) (before after : ℤ) → quote c k y ≡ quoted before after → after -ℤ before ≡ lesser (signed y) x.amount -ℤ lesser (weight_of c k) x.amount
  pub whole : x.kind ≡ 2 → (y : ℕ) (before after : ℤ) → quote c k y ≡ quoted before after → after -ℤ before ≡ signed y -ℤ weight_of c k

-- a row that is not in use, of an accepted table: kind 0, number 7, place 0
pub record RowDeclined (x : Fields) : Type 0 where
  pub kind : x.kind ≡ 0
  pub number : x.number ≡ 7
  pub place : x.out ≡ 0

-- a call with the columns c and the row k: what it returns, and the lent answer before and after
pub record BreakingCall (c : Call) (k : ℕ) (answer after : List ℕ) (returned : ℕ) : Type 0 where
  -- an answer of another length than sixteen bytes: 0 is returned, and nothing is written
  pub declined : (length answer ≡ 16 → ⊥) → (returned ≡ 0) × (after ≡ answer)
  -- sixteen bytes: 1 is returned, and the answer is written
  pub returns : length answer ≡ 16 → returned ≡ 1
  pub written : length answer ≡ 16 → Written after (breaking_fields (breaking_price c k))
  pub means : length answer ≡ 16 → AcceptedTable c → Row c k → BreaksMean c k (read_back after)
  pub outside : length answer ≡ 16 → AcceptedTable c → (Row c k → ⊥) → RowDeclined (read_back after)
  pub refused : length answer ≡ 16 → (AcceptedTable c → ⊥) → TableDeclined (read_back after)

-- the theorem: of every call through the two doors, whatever the columns, the row and the lent answer hold
abbrev pub BreakingDoorMeans : Type 0
BreakingDoorMeans = (c : Call) (k : ℕ) (answer : List ℕ) → BreakingCall c k answer (breaking_door c k answer) (door_returns answer)
