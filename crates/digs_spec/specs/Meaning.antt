-- What a dig list says, over every accepted table and every spanning tree of it, MST1's or another: the text, read back, is the marked rows and their sum.
-- A printer that drops, repeats, reorders or misprints a row, or adds up another sum, does not meet it.
-- Cites definitions alone; the proof is proofs/Meaning.antt. Assumes nothing.
use Rattle.std.specs.Prelude.{ℕ, suc, ◌≤◌, ◌<◌, List, [], ◌∷◌, ◌≡◌, ℤ, length}
use Rattle.std.proofs.Math.Option.{some}
use Rattle.star_meaning.specs.Demand3.{ClaimTree}
use Rattle.digs_spec.specs.DigList.{dig_list, listing, table_list}
use Rattle.digs_spec.specs.Reading.{Dig, Listed, read, weighed, listed}
use Rattle.rowset.specs.Bytes.{in_row}
use Rattle.rowset.specs.Integers.{signed}
use Rattle.star_spec.specs.Call.{Call, with_claim, claimed, claim_weight}
use Rattle.star_spec.specs.Mst1.{tree_built, mst1, mst1_marks}
use Rattle.star_spec.specs.Refusals.{Accepted}

-- the longest list: 254 lines of 25 bytes and a total's of 20
abbrev pub max_list : ℕ
max_list = 6370

-- the rows stand from the top: each position is below the next, and above k
unfoldable pub Ascending : ℕ → List Dig → Type 0
Ascending k [] = Unit
Ascending k (d ∷ ds) = (k < d.position) × Ascending d.position ds

-- a row as the table has it
pub record AsStored (left right weight : List ℕ) (d : Dig) : Type 0 where
  pub left_end : d.left ≡ in_row 1 left d.position
  pub right_end : d.right ≡ in_row 1 right d.position
  pub price : d.weight ≡ signed (in_row 4 weight d.position)

unfoldable pub AllStored : (left right weight : List ℕ) → List Dig → Type 0
AllStored left right weight [] = Unit
AllStored left right weight (d ∷ ds) = AsStored left right weight d × AllStored left right weight ds

-- what the text of a list says of a table and its claim
pub record Says (c : Call) (text : List ℕ) : Type 0 where
  pub rows : List Dig
  -- the text reads back: these rows are on its lines above the last, and on the last is the sum of their weights
  pub reads : read text ≡ some (record { rows = rows; total = weighed rows })
  -- they stand from the top, each once
  pub from-top : Ascending 0 rows
  -- they are exactly the marked rows; a row that is not in use is never one
  pub exactly : (i : ℕ) → listed i rows ≡ claimed c i
  -- with the ends and the weights of the table
  pub as-stored : AllStored c.left c.right c.weight rows

-- of a tree: n − 1 rows, the total is the tree's weight, and the text is at most 6,370 bytes long
pub record SaysTree (c : Call) (text : List ℕ) : Type 0 where
  pub says : Says c text
  pub number : suc (length says.rows) ≡ c.n
  pub weight-of : weighed says.rows ≡ claim_weight c
  pub short : length text ≤ max_list

-- the theorem: of every accepted table, plain or working, and every spanning tree of it; and so of what is listed where MST1 builds a tree
pub record DigListHolds (c : Call) : Type 0 where
  pub every-tree : ClaimTree c → SaysTree c (dig_list c)
  pub mst1-tree : (w : ℤ) → mst1 c ≡ tree_built w → (text : List ℕ) × (table_list c ≡ listing text) × SaysTree (with_claim c (mst1_marks c)) text

abbrev pub DigListTheorem : Type 0
DigListTheorem = (c : Call) → Accepted c → DigListHolds c
