-- What is answered of a text: its place where it is broken, and else its numbers and rows. Each column has zeros past its rows, and a broken text has zeros alone.
-- Assumes nothing.
use Rattle.std.specs.Prelude.{ℕ, ◌-◌, List, ◌++◌, length, replicate, Result, Ok, Err}
use Rattle.stp_spec.specs.Reader.{Read, Reading, broken, whole, nothing_read}
use Rattle.stp_reader.specs.declared.BrokenText.{BrokenText}
use Rattle.stp_reader.specs.declared.Table.{Table}

-- a column of `size` bytes that begins with some, and else is 0
unfoldable pub padded : ℕ → List ℕ → List ℕ
padded size bytes = bytes ++ replicate (size - length bytes) 0

-- the table of what was read
unfoldable pub table_of : Read → Table
table_of r =
    record {
      graph = r.graph;
      nodes = r.nodes;
      edges = r.edges;
      rows = r.rows;
      left = padded 1024 r.left;
      right = padded 1024 r.right;
      weight = padded 4096 r.weight;
    }

-- a broken text: its place, and the table of zeros
unfoldable pub broken_text : ℕ → BrokenText
broken_text place = record { at = place; table = table_of nothing_read }

unfoldable pub text_of : Reading → Result Table BrokenText
text_of (broken place) = Err (broken_text place)
text_of (whole r) = Ok (table_of r)
