-- From the sixteen bytes of an answer and the lent text to the trees of the columns: what a call through the doors star_digs and star_work_digs returns and leaves, and what it means.
-- The doors' contracts state it of themselves. c is the call's columns, plain or working, with the left column in the place of the marks, of which none are taken.
-- Cites definitions alone; the proof is proofs/Bytes.antt. Assumes nothing.
use Rattle.std.specs.Prelude.{ℕ, ◌≤◌, List, ◌↔◌, ◌≡◌, pos, length, take}
use Rattle.star_meaning.specs.Bytes.{TableDeclined}
use Rattle.star_meaning.specs.Demand3.{ClaimTree, LeastClaim}
use Rattle.digs_spec.specs.DigList.{table_list}
use Rattle.digs_spec.specs.Door.{list_fields, list_returns, list_answered, list_text}
use Rattle.digs_spec.specs.Meaning.{max_list, SaysTree}
use Rattle.star_spec.specs.Accepted.{AcceptedTable}
use Rattle.star_spec.specs.Call.{Call, with_claim}
use Rattle.star_spec.specs.Door.{Fields, read_back}
use Rattle.star_spec.specs.Mst1.{mst1_marks}

-- the fields x that are read back and the lent text afterwards, over an accepted table
pub record ListedMeans (c : Call) (x : Fields) (text : List ℕ) : Type 0 where
  -- kind 1: there is a spanning tree. The text begins with the list of one than which none weighs less, as many bytes as the amount says
  pub listed : (x.kind ≡ 1) ↔ ((other : List ℕ) × ClaimTree (with_claim c other))
  pub says : x.kind ≡ 1 → (size : ℕ) × (x.amount ≡ pos size) × SaysTree (with_claim c (mst1_marks c)) (take size text)
  pub least : x.kind ≡ 1 → LeastClaim (with_claim c (mst1_marks c))
  -- kind 0: there is none; the number is 11 and the place 0
  pub declined : (x.kind ≡ 0) ↔ ((other : List ℕ) → ClaimTree (with_claim c other) → ⊥)
  pub number : x.kind ≡ 0 → (x.number ≡ 11) × (x.out ≡ 0)

-- the answer has sixteen bytes, and the text room for the longest list
abbrev pub Lent : (text answer : List ℕ) → Type 0
Lent text answer = (length answer ≡ 16) × (max_list ≤ length text)

-- a call with the columns c: the lent text and answer, both afterwards, and what is returned
pub record DigsCall (c : Call) (text answer written after : List ℕ) (returned : ℕ) : Type 0 where
  -- not lent so: 0 is returned, and nothing is written
  pub declined : (Lent text answer → ⊥) → (returned ≡ 0) × (after ≡ answer) × (written ≡ text)
  pub returns : Lent text answer → (returned ≡ 1) × (length after ≡ 16)
  pub means : Lent text answer → AcceptedTable c → ListedMeans c (read_back after) written
  -- a table that is not accepted: kind 0 with a number of 1 to 4, or 15, and the text stays as it was
  pub refused : Lent text answer → (AcceptedTable c → ⊥) → TableDeclined (read_back after) × (written ≡ text)

-- the theorem: of every call through the two doors, whatever the columns, the text and the answer hold
abbrev pub DigsDoorMeans : Type 0
DigsDoorMeans = (c : Call) (text answer : List ℕ)
    → DigsCall c text answer (list_text (table_list c) text answer) (list_answered text answer (list_fields (table_list c))) (list_returns text answer)
