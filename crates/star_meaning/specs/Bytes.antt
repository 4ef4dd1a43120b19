-- From the sixteen bytes of an answer to the trees of the columns: what a call through the doors star_cst, star_other and star_mst1 returns and leaves,
-- and what the bytes mean, over the project's definitions. What the doors' contracts state, promise/specs/Promise.antt, is proved from it.
-- c is the call's columns: `call_of` for a plain table and `work_of` for a working one, whose rows are those in use. Which tables are accepted says star_spec/Accepted.
-- Cites definitions alone; the proof is proofs/Bytes.antt. Assumes nothing.
use Rattle.std.specs.Prelude.{ℕ, ◌≤◌, ◌<◌, List, ◌↔◌, ◌⊎◌, ◌≡◌, pos, length, get_or}
use Rattle.star_meaning.specs.Demand3.{ClaimTree, LeastClaim, WorthExchange, Fault, BuilderBytes}
use Rattle.star_meaning.specs.Only.{NoOther, EqualExchange}
use Rattle.rowset.specs.Bytes.{little}
use Rattle.star_spec.specs.Accepted.{AcceptedTable}
use Rattle.star_spec.specs.Call.{Call, claim_weight, with_claim}
use Rattle.star_spec.specs.Cst.{cst}
use Rattle.star_spec.specs.Door.{Fields, fields, built_fields, other_fields, read_back, door_returns, cst_door, mst1_door, other_door, mst1_door_marks}
use Rattle.star_spec.specs.Mst1.{mst1}

-- what is left of a lent answer of sixteen bytes: sixteen bytes, of which the one numbered 7 is 0, and what is read back is the answer's own fields, none of them cut off
pub record Written (after : List ℕ) (answer : Fields) : Type 0 where
  pub sixteen : length after ≡ 16
  pub bytes : (k : ℕ) → get_or after k 0 < 256
  pub unused : little after 7 1 ≡ 0
  pub fields : read_back after ≡ answer

-- the fields x of CST's answer, over an accepted table
pub record CheckedMeans (c : Call) (x : Fields) : Type 0 where
  -- kind 1: the claim is a spanning tree, and every spanning tree of the table weighs at least as much; the amount is its weight
  pub passed : (x.kind ≡ 1) ↔ LeastClaim c
  pub weight : x.kind ≡ 1 → x.amount ≡ claim_weight c
  -- kind 2: the claim is a spanning tree, and another weighs less: the exchange of row out for row in, by the amount
  pub lighter : (x.kind ≡ 2) ↔ (ClaimTree c × (LeastClaim c → ⊥))
  pub exchange : x.kind ≡ 2 → (saving : ℕ) × (x.amount ≡ pos saving) × WorthExchange c x.out x.into saving
  -- kind 0: the claim is no spanning tree, and the number and the place say why
  pub declined : (x.kind ≡ 0) ↔ (ClaimTree c → ⊥)
  pub fault : x.kind ≡ 0 → Fault c (record { number = x.number; place = x.out })
  -- in kind 1 the byte of the only tree is 1 where no other spanning tree of the table has the same weight, and else 0; in the other kinds it is 0
  pub only : x.kind ≡ 1 → (x.only ≡ 1) ↔ NoOther c
  pub yes_or_no : x.kind ≡ 1 → x.only ≤ 1
  pub no-pass : (x.kind ≡ 1 → ⊥) → x.only ≡ 0

-- the fields x of the door that names an exchange, over an accepted table: as CST's, and where another tree weighs the same, the exchange of row out for row in gives one
pub record OtherMeans (c : Call) (x : Fields) : Type 0 where
  pub checked : CheckedMeans c x
  pub another : x.kind ≡ 1 → x.only ≡ 0 → EqualExchange c x.out x.into
  pub same : (x.kind ≡ 1 → x.only ≡ 0 → ⊥) → x ≡ fields (cst c)

-- the fields x of MST1's answer and the mark column afterwards, over an accepted table
pub record BuiltMeans (c : Call) (x : Fields) (marks : List ℕ) : Type 0 where
  -- kind 0 or 1
  pub kinds : x.kind ≤ 1
  -- kind 1: there is a spanning tree; the marks are one, every other weighs at least as much, and the amount is its weight; its bytes are 0 and 1, and 0 at rows not in use
  pub built : (x.kind ≡ 1) ↔ ((other : List ℕ) × ClaimTree (with_claim c other))
  pub least : x.kind ≡ 1 → LeastClaim (with_claim c marks)
  pub weight : x.kind ≡ 1 → x.amount ≡ claim_weight (with_claim c marks)
  pub bytes : x.kind ≡ 1 → BuilderBytes c marks
  -- kind 0: there is none; the number is 11, the place 0, and the marks are as they were
  pub declined : (x.kind ≡ 0) ↔ ((other : List ℕ) → ClaimTree (with_claim c other) → ⊥)
  pub number : x.kind ≡ 0 → (x.number ≡ 11) × (x.out ≡ 0)
  pub kept : x.kind ≡ 0 → marks ≡ c.mark
  -- nothing is said about other trees
  pub only : x.only ≡ 0

-- a table that is not accepted: kind 0, with a number of 1 to 4, or 15
pub record TableDeclined (x : Fields) : Type 0 where
  pub kind : x.kind ≡ 0
  pub number : ((1 ≤ x.number) × (x.number ≤ 4)) ⊎ (x.number ≡ 15)
  pub only : x.only ≡ 0

-- a call of star_cst with the columns c: what it returns, and the lent answer before and after
pub record CstCall (c : Call) (answer after : List ℕ) (returned : ℕ) : Type 0 where
  -- an answer of another length than sixteen bytes: 0 is returned, and nothing is written
  pub declined : (length answer ≡ 16 → ⊥) → (returned ≡ 0) × (after ≡ answer)
  -- sixteen bytes: 1 is returned, and the answer is written
  pub returns : length answer ≡ 16 → returned ≡ 1
  pub written : length answer ≡ 16 → Written after (fields (cst c))
  pub means : length answer ≡ 16 → AcceptedTable c → CheckedMeans c (read_back after)
  pub refused : length answer ≡ 16 → (AcceptedTable c → ⊥) → TableDeclined (read_back after)

-- a call of star_other with the columns c
pub record OtherCall (c : Call) (answer after : List ℕ) (returned : ℕ) : Type 0 where
  pub declined : (length answer ≡ 16 → ⊥) → (returned ≡ 0) × (after ≡ answer)
  pub returns : length answer ≡ 16 → returned ≡ 1
  pub written : length answer ≡ 16 → Written after (other_fields c)
  pub means : length answer ≡ 16 → AcceptedTable c → OtherMeans c (read_back after)
  pub refused : length answer ≡ 16 → (AcceptedTable c → ⊥) → TableDeclined (read_back after)

-- a call of star_mst1 with the columns c: what it returns, the lent answer before and after, and the mark column afterwards
pub record Mst1Call (c : Call) (answer after marks : List ℕ) (returned : ℕ) : Type 0 where
  pub declined : (length answer ≡ 16 → ⊥) → (returned ≡ 0) × (after ≡ answer) × (marks ≡ c.mark)
  pub returns : length answer ≡ 16 → returned ≡ 1
  pub written : length answer ≡ 16 → Written after (built_fields (mst1 c))
  pub means : length answer ≡ 16 → AcceptedTable c → BuiltMeans c (read_back after) marks
  pub refused : length answer ≡ 16 → (AcceptedTable c → ⊥) → TableDeclined (read_back after) × (marks ≡ c.mark)

-- the theorem: of every call through the three doors, whatever the columns and the lent answer hold
abbrev pub CstDoorMeans : Type 0
CstDoorMeans = (c : Call) (answer : List ℕ) → CstCall c answer (cst_door c answer) (door_returns answer)

abbrev pub OtherDoorMeans : Type 0
OtherDoorMeans = (c : Call) (answer : List ℕ) → OtherCall c answer (other_door c answer) (door_returns answer)

abbrev pub Mst1DoorMeans : Type 0
Mst1DoorMeans = (c : Call) (answer : List ℕ) → Mst1Call c answer (mst1_door c answer) (mst1_door_marks c answer) (door_returns answer)
