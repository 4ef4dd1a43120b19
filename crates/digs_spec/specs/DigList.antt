-- The dig list: a line a marked row from the top, and the total; what is listed of a table and of an STP text, or the refusal; and what is printed of either.
-- Assumes nothing.
use Rattle.std.specs.Prelude.{ℕ, zero, suc, ◌*◌, Bool, cond, List, [], ◌∷◌, ◌++◌, ℤ}
use Rattle.decimal.specs.Decimal.{natural, integer}
use Rattle.refusal.specs.declared.Refusal.{Refusal}
use Rattle.rowset.specs.Bytes.{in_row}
use Rattle.rowset.specs.Integers.{signed}
use Rattle.star_spec.specs.Call.{Call, call_of, with_claim, rows_of, claimed, claim_weight}
use Rattle.star_spec.specs.Mst1.{BuildAnswer, unbuilt, tree_built, mst1, mst1_marks}
use Rattle.star_spec.specs.Refusals.{max_rows}
use Rattle.stp_spec.specs.Import.{ImportAnswer, untaken, taken, imported, read_text, columns_of}
use Rattle.stp_spec.specs.Reader.{Read}
use Rattle.stp_words.specs.Bytes.{bytes}

-- a number and the space after it
abbrev pub spaced : ℕ → List ℕ
spaced x = natural x ++ bytes " "

-- the line of a row: position, left, right, weight, a single space between, and LF
unfoldable pub row_line : (left right weight : List ℕ) → ℕ → List ℕ
row_line left right weight i =
    spaced i ++ spaced (in_row 1 left i) ++ spaced (in_row 1 right i) ++ integer (signed (in_row 4 weight i)) ++ bytes "\n"

-- the lines of those rows of 1 to m that belong to a set, from the top
unfoldable pub row_lines : (ℕ → List ℕ) → ℕ → (ℕ → Bool) → List ℕ
row_lines line zero p = []
row_lines line (suc m) p = row_lines line m p ++ cond (p (suc m)) (line (suc m)) []

-- the last line
unfoldable pub total_line : ℤ → List ℕ
total_line z = bytes "Total " ++ integer z ++ bytes "\n"

-- the dig list of a table and its claim: the lines of the claim's marked rows, and the sum of their weights
unfoldable pub dig_list : Call → List ℕ
dig_list c = row_lines (row_line c.left c.right c.weight) (rows_of c) (claimed c) ++ total_line (claim_weight c)

-- what is listed: a text, or the refusal
pub data ListAnswer : Type 0 where
  unlisted : Refusal → ListAnswer
  listing : List ℕ → ListAnswer

-- of a table, plain or working: the list of MST1's tree
unfoldable pub built_list : Call → BuildAnswer → ListAnswer
built_list c (unbuilt r) = unlisted r
built_list c (tree_built w) = listing (dig_list (with_claim c (mst1_marks c)))

unfoldable pub table_list : Call → ListAnswer
table_list c = built_list c (mst1 c)

-- of an STP text: the import's refusal, or the list of the table that was read. No mark is read; the left column stands in for the marks, whose bytes MST1 does not look at
unfoldable pub read_list : Read → ImportAnswer → ListAnswer
read_list t (untaken r) = unlisted r
read_list t (taken n m) = table_list (call_of n t.left t.right t.weight t.left)

unfoldable pub text_list : List ℕ → ListAnswer
text_list text = read_list (columns_of (read_text text)) (imported text max_rows max_rows (4 * max_rows))

-- the line of a refusal
unfoldable pub refused_line : Refusal → List ℕ
refused_line r = bytes "Refused " ++ spaced r.number ++ natural r.place ++ bytes "\n"

-- what is printed: the list, or the line of the refusal
unfoldable pub printed : ListAnswer → List ℕ
printed (unlisted r) = refused_line r
printed (listing text) = text

-- the exit status of a program that prints it: 0 for a list, 1 for a refusal
unfoldable pub exit_status : ListAnswer → ℕ
exit_status (unlisted r) = 1
exit_status (listing text) = 0
