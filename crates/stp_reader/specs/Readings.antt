-- What the reader's table and its stand stand for, and what its answer says of a text.
-- Assumes nothing.
use Rattle.std.specs.Prelude.{ℕ, ◌*◌, ◌-◌, List, ◌≡◌, length, take, drop, replicate, Option, Some, None, Result, Ok, Err}
use Rattle.std.proofs.Math.Option.{none, some}
use Rattle.stp_spec.specs.Reader.{Read, Reading, broken, whole, Next}
use Rattle.stp_spec.specs.Reader as reader
use Rattle.stp_reader.specs.declared.BrokenText.{BrokenText}
use Rattle.stp_reader.specs.declared.Table.{Table}
use Rattle.stp_reader.specs.declared.Stand.{Stand}
use Rattle.stp_reader.specs.declared.Stand.TheVariants.{Heading, Sections, Naming, Skipping, Skipped, Ending, Nodes, NodeCount, Edges, EdgeCount, Lines, LeftEnd, RightEnd, Price, Closed}

-- columns of 1,024 rows
pub record Sized (left right weight : List ℕ) : Type 0 where
  pub lefts : length left ≡ 1024
  pub rights : length right ≡ 1024
  pub weights : length weight ≡ 4096

-- what is read: the numbers, and the rows of the columns so far
unfoldable pub read_of : Table → Read
read_of t =
    record {
      graph = t.graph;
      nodes = t.nodes;
      edges = t.edges;
      rows = t.rows;
      left = take t.rows t.left;
      right = take t.rows t.right;
      weight = take (4 * t.rows) t.weight;
    }

-- columns of 1,024 rows that are 0 past those that were read
pub record Clean (t : Table) : Type 0 where
  pub sized : Sized t.left t.right t.weight
  pub left : drop t.rows t.left ≡ replicate (1024 - t.rows) 0
  pub right : drop t.rows t.right ≡ replicate (1024 - t.rows) 0
  pub weight : drop (4 * t.rows) t.weight ≡ replicate (4096 - 4 * t.rows) 0

-- where the reader stands
unfoldable pub stand_of : Stand → reader.Stand
stand_of Heading = reader.heading
stand_of Sections = reader.sections
stand_of Naming = reader.naming
stand_of Skipping = reader.skipping
stand_of Skipped = reader.skipped
stand_of Ending = reader.ending
stand_of Nodes = reader.nodes
stand_of NodeCount = reader.node_count
stand_of Edges = reader.edges
stand_of EdgeCount = reader.edge_count
stand_of Lines = reader.lines
stand_of LeftEnd = reader.left_end
stand_of (RightEnd a) = reader.right_end a
stand_of (Price a b) = reader.price a b
stand_of Closed = reader.closed

-- where it stands after a word that can stand, with what is read by then
unfoldable pub next_of : Option Stand → Read → Next
next_of (Some s) r = some (stand_of s, r)
next_of None r = none

-- what the answer says of the text
unfoldable pub reading_of : Result Table BrokenText → Reading
reading_of (Ok t) = whole (read_of t)
reading_of (Err b) = broken b.at
