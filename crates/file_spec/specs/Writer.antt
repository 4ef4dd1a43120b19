-- The writer: a line junctions N, and a line a trench, its fields parted by semicolons, which no name holds.
-- Assumes nothing.
use Rattle.std.specs.Prelude.{ℕ, zero, suc, ◌-◌, Bool, true, false, cond, List, [], ◌∷◌, ◌++◌, eqb, length, get_or}
use Rattle.decimal.specs.Decimal.{natural, integer}
use Rattle.rowset.specs.Bytes.{in_row}
use Rattle.rowset.specs.Integers.{signed}
use Rattle.stp_words.specs.Bytes.{bytes}
use Rattle.file_spec.specs.Line.{Trench, End, number, name}
use Rattle.file_spec.specs.Reader.{Read, Reading, broken, read, junctions}

-- fields with a semicolon between each two, and lines of fields, each with its end
unfoldable pub fields_text : List (List ℕ) → List ℕ
fields_text [] = []
fields_text (f ∷ []) = f
fields_text (f ∷ g ∷ fs) = f ++ (59 ∷ fields_text (g ∷ fs))

unfoldable pub lines_text : List (List (List ℕ)) → List ℕ
lines_text [] = []
lines_text (fs ∷ ls) = fields_text fs ++ (10 ∷ lines_text ls)

-- the fields of the line that says how many junctions there are, and the word before a struck trench
unfoldable pub count_fields : ℕ → List (List ℕ)
count_fields n = bytes "junctions" ∷ natural n ∷ []

unfoldable pub struck_fields : Bool → List (List ℕ)
struck_fields true = bytes "struck" ∷ []
struck_fields false = []

-- ── A table as a list of trenches, whose ends are numbers or names ──

unfoldable pub end_bytes : End → List ℕ
end_bytes (number v) = natural v
end_bytes (name w) = w

unfoldable pub trench_fields : Trench → List (List ℕ)
trench_fields t = struck_fields t.struck ++ (end_bytes t.left ∷ end_bytes t.right ∷ integer t.price ∷ natural t.mark ∷ [])

unfoldable pub trenches_fields : List Trench → List (List (List ℕ))
trenches_fields [] = []
trenches_fields (t ∷ ts) = trench_fields t ∷ trenches_fields ts

unfoldable pub file_text : ℕ → List Trench → List ℕ
file_text n ts = lines_text (count_fields n ∷ trenches_fields ts)

-- ── A table in columns, as it was read ──

-- the name with a number, counted from 1
unfoldable pub name_at : List (List ℕ) → ℕ → List ℕ
name_at ns v = get_or ns (v - 1) []

unfoldable pub end_text : Read → ℕ → List ℕ
end_text r v = cond (eqb r.kind 2) (name_at r.names v) (natural v)

-- the fields of the row at position k, counted from 0
unfoldable pub row_fields : Read → ℕ → List (List ℕ)
row_fields r k =
    struck_fields (get_or r.struck k false)
    ++ (end_text r (get_or r.left k 0) ∷ end_text r (get_or r.right k 0) ∷ integer (signed (in_row 4 r.weight (suc k))) ∷ natural (get_or r.marks k 0) ∷ [])

-- the lines of n rows from position k on
unfoldable pub rows_fields : Read → ℕ → ℕ → List (List (List ℕ))
rows_fields r k zero = []
rows_fields r k (suc n) = row_fields r k ∷ rows_fields r (suc k) n

unfoldable pub table_text : Read → List ℕ
table_text r = lines_text (count_fields (junctions r) ∷ rows_fields r 0 (length r.left))

unfoldable pub written : Reading → List ℕ
written (broken reason at) = []
written (read r) = table_text r
