-- From the sixteen bytes of an answer to the trees of the table: what a call through star_outlets and star_work_outlets returns and leaves, and what the bytes and the marks mean.
-- The doors' contracts state it of themselves. c is the call's columns, whose rows are those in use, r the vertex and t the number of rows at it.
-- Cites definitions alone; the proof is proofs/Bytes.antt. Assumes nothing.
use Rattle.std.specs.Prelude.{ℕ, List, ◌↔◌, ◌≡◌, length}
use Rattle.star_meaning.specs.Bytes.{Written, TableDeclined}
use Rattle.graph_theory.specs.Graph.{Connected}
use Rattle.star_spec.specs.Accepted.{AcceptedTable, Vertex}
use Rattle.star_spec.specs.Call.{Call, graph_of}
use Rattle.star_spec.specs.Door.{Fields, built_fields, read_back, door_returns}
use Rattle.outlets_spec.specs.Door.{outlets_door, outlets_door_marks}
use Rattle.outlets_spec.specs.Means.{Marked, Possible}
use Rattle.outlets_spec.specs.Outlets.{outlets}

-- the fields x of the answer and the marks afterwards, of an accepted table and a vertex r of it
pub record TreeAtMeans (c : Call) (r t : ℕ) (x : Fields) (marks : List ℕ) : Type 0 where
  -- kind 1: some spanning tree has exactly t rows at r; the marks are a least one of these, and the amount is its weight
  pub built : (x.kind ≡ 1) ↔ Possible c r t
  pub tree : x.kind ≡ 1 → Marked c r t x.amount marks
  -- kind 0: there is none; the number is 11 exactly where the table is not connected, and 19 exactly where it is; the place is 0, and the marks are as they were
  pub declined : (x.kind ≡ 0) ↔ (Possible c r t → ⊥)
  pub eleven : (x.number ≡ 11) ↔ (Connected (graph_of c) → ⊥)
  pub nineteen : (x.number ≡ 19) ↔ (Connected (graph_of c) × (Possible c r t → ⊥))
  pub place : x.kind ≡ 0 → x.out ≡ 0
  pub kept : x.kind ≡ 0 → marks ≡ c.mark

-- an accepted table, and r is none of its vertices: kind 0 with number 7 and place 0
pub record VertexDeclined (x : Fields) : Type 0 where
  pub kind : x.kind ≡ 0
  pub number : x.number ≡ 7
  pub place : x.out ≡ 0

-- a call: what it returns, the lent answer before and after, and the mark column afterwards
pub record OutletsCall (c : Call) (r t : ℕ) (answer after marks : List ℕ) (returned : ℕ) : Type 0 where
  -- an answer of another length than sixteen bytes: 0 is returned, and nothing is written
  pub declined : (length answer ≡ 16 → ⊥) → (returned ≡ 0) × (after ≡ answer) × (marks ≡ c.mark)
  -- sixteen bytes: 1 is returned, and the answer is written
  pub returns : length answer ≡ 16 → returned ≡ 1
  pub written : length answer ≡ 16 → Written after (built_fields (outlets c r t))
  pub means : length answer ≡ 16 → AcceptedTable c → Vertex c.n r → TreeAtMeans c r t (read_back after) marks
  pub outside : length answer ≡ 16 → AcceptedTable c → (Vertex c.n r → ⊥) → VertexDeclined (read_back after) × (marks ≡ c.mark)
  pub refused : length answer ≡ 16 → (AcceptedTable c → ⊥) → TableDeclined (read_back after) × (marks ≡ c.mark)

-- the theorem: of every call through the two doors, whatever the columns, r, t and the lent answer hold
abbrev pub OutletsDoorMeans : Type 0
OutletsDoorMeans = (c : Call) (r t : ℕ) (answer : List ℕ) → OutletsCall c r t answer (outlets_door c r t answer) (outlets_door_marks c r t answer) (door_returns answer)
