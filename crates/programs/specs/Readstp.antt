-- What the program readstp prints of an STP text: n and m on one line, and then a line a row with its ends and its weight; or the line of the refusal.
-- Assumes nothing.
use Rattle.std.specs.Prelude.{ℕ, zero, suc, ◌*◌, List, [], ◌++◌}
use Rattle.decimal.specs.Decimal.{natural, integer}
use Rattle.digs_spec.specs.DigList.{spaced, refused_line}
use Rattle.rowset.specs.Bytes.{in_row}
use Rattle.rowset.specs.Integers.{signed}
use Rattle.star_spec.specs.Refusals.{max_rows}
use Rattle.stp_spec.specs.Import.{ImportAnswer, untaken, taken, imported, read_text, columns_of}
use Rattle.stp_spec.specs.Reader.{Read}
use Rattle.stp_words.specs.Bytes.{bytes}

-- the line of n and m
unfoldable pub sizes_line : (n m : ℕ) → List ℕ
sizes_line n m = spaced n ++ (natural m ++ bytes "\n")

-- the line of a row: left, right, weight, a single space between, and LF
unfoldable pub ends_line : (left right weight : List ℕ) → ℕ → List ℕ
ends_line left right weight i = spaced (in_row 1 left i) ++ spaced (in_row 1 right i) ++ integer (signed (in_row 4 weight i)) ++ bytes "\n"

-- the lines of rows 1 to m, from the top
unfoldable pub lines_to : (ℕ → List ℕ) → ℕ → List ℕ
lines_to line zero = []
lines_to line (suc m) = lines_to line m ++ line (suc m)

unfoldable pub table_text : (n m : ℕ) → (left right weight : List ℕ) → List ℕ
table_text n m left right weight = sizes_line n m ++ lines_to (ends_line left right weight) m

-- what is printed of an import's answer, and the exit status of a program that prints it: 0 for a table, 1 for a refusal
unfoldable pub answer_text : Read → ImportAnswer → List ℕ
answer_text t (untaken r) = refused_line r
answer_text t (taken n m) = table_text n m t.left t.right t.weight

unfoldable pub answer_status : ImportAnswer → ℕ
answer_status (untaken r) = 1
answer_status (taken n m) = 0

-- and of an STP text, imported into columns of 1,024 rows
unfoldable pub read_page : List ℕ → List ℕ
read_page text = answer_text (columns_of (read_text text)) (imported text max_rows max_rows (4 * max_rows))

unfoldable pub read_status : List ℕ → ℕ
read_status text = answer_status (imported text max_rows max_rows (4 * max_rows))
