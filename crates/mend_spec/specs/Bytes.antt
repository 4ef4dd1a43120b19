-- From the sixteen bytes of an answer to the spanning trees of the table: what a call through star_mend and star_work_mend returns and leaves, and what the bytes, the claim and the list mean.
-- The doors' contracts state it of themselves. c is the call's columns, whose rows are those in use, and l the lent list before the call.
-- Cites definitions alone; the proof is that of the crate redrawing. Assumes nothing.
use Rattle.std.specs.Prelude.{ℕ, ◌*◌, ◌≤◌, ℤ, pos, length, take, drop, Bool, List, ◌↔◌, ◌⊎◌, ◌≡◌}
use Rattle.star_meaning.specs.Bytes.{Written}
use Rattle.star_meaning.specs.Demand3.{ZeroOrOne}
use Rattle.graph_theory.specs.Graph.{Connected}
use Rattle.mend_theory.specs.Promise.{AllMeant, InOrder}
use Rattle.mend_record.specs.declared.Record.{Record}
use Rattle.star_spec.specs.Accepted.{AcceptedTable}
use Rattle.star_spec.specs.Call.{Call, rows_of, graph_of, weight_of, claimed, with_claim}
use Rattle.star_spec.specs.Cst.{passed, cst}
use Rattle.star_spec.specs.Door.{Fields, read_back, door_returns}
use Rattle.mend_spec.specs.Door.{mend_fields, mend_door, mend_door_marks, mend_door_list}
use Rattle.mend_spec.specs.Means.{applied_to}
use Rattle.mend_spec.specs.Mend.{mend}

-- what is handed in is taken: the table is accepted, the claim's bytes at rows in use are 0 and 1, and the list has 2 · m records or more
pub record Taken (c : Call) (l : List Record) : Type 0 where
  pub table : AcceptedTable c
  pub claim : ZeroOrOne c
  pub room : 2 * rows_of c ≤ length l

-- k steps, the claim and the list after them
pub record Steps (c : Call) (l : List Record) (k : ℕ) (marks : List ℕ) (list : List Record) : Type 0 where
  -- CST passes the claim
  pub passes : (weight : ℤ) × (alone : Bool) × (cst (with_claim c marks) ≡ passed weight alone)
  -- the first k records applied in order to the old claim give it, byte by byte; they are at most 2 · m, and those past them keep their content
  pub applied : applied_to c.mark (take k list) ≡ marks
  pub few : k ≤ 2 * rows_of c
  pub rest : drop k list ≡ drop k l
  -- each of them says what was done at its step, and they stand in the order of the passes, those of one pass from the top
  pub meant : AllMeant (graph_of c) (weight_of c) (claimed c) (take k list)
  pub order : InOrder (take k list)

-- the fields x of the answer, the claim and the list afterwards, where what is handed in is taken
pub record MendedMeans (c : Call) (l : List Record) (x : Fields) (marks : List ℕ) (list : List Record) : Type 0 where
  -- kind 1: the table is connected; the amount is the number of records
  pub mended : (x.kind ≡ 1) ↔ Connected (graph_of c)
  pub steps : x.kind ≡ 1 → (k : ℕ) × (x.amount ≡ pos k) × Steps c l k marks list
  -- kind 0: it is not; the number is 11, the place 0, and claim and list are as they were
  pub declined : (x.kind ≡ 0) ↔ (Connected (graph_of c) → ⊥)
  pub number : x.kind ≡ 0 → (x.number ≡ 11) × (x.out ≡ 0)
  pub kept : x.kind ≡ 0 → (marks ≡ c.mark) × (list ≡ l)

-- what is handed in is not taken: kind 0, with a number of 1 to 4, 15, 6 or 16
pub record MendDeclined (x : Fields) : Type 0 where
  pub kind : x.kind ≡ 0
  pub number : (((1 ≤ x.number) × (x.number ≤ 4)) ⊎ (x.number ≡ 15)) ⊎ ((x.number ≡ 6) ⊎ (x.number ≡ 16))

-- a call: what it returns, the lent answer before and after, and the claim and the list afterwards
pub record MendCall (c : Call) (l : List Record) (answer after marks : List ℕ) (list : List Record) (returned : ℕ) : Type 0 where
  -- an answer of another length than sixteen bytes: 0 is returned, and nothing is written
  pub declined : (length answer ≡ 16 → ⊥) → (returned ≡ 0) × (after ≡ answer) × (marks ≡ c.mark) × (list ≡ l)
  -- sixteen bytes: 1 is returned, and the answer is written
  pub returns : length answer ≡ 16 → returned ≡ 1
  pub written : length answer ≡ 16 → Written after (mend_fields (mend c (length l)))
  pub means : length answer ≡ 16 → Taken c l → MendedMeans c l (read_back after) marks list
  pub refused : length answer ≡ 16 → (Taken c l → ⊥) → MendDeclined (read_back after) × (marks ≡ c.mark) × (list ≡ l)

-- the theorem: of every call through the two doors, whatever the columns, the list and the lent answer hold
abbrev pub MendDoorMeans : Type 0
MendDoorMeans =
    (c : Call) (l : List Record) (answer : List ℕ)
    → MendCall c l answer (mend_door c (length l) answer) (mend_door_marks c (length l) answer) (mend_door_list c l answer) (door_returns answer)
