-- The import: the refusals of a text in their order, what is answered, and the three lent columns afterwards.
-- Assumes nothing.
use Rattle.std.specs.Prelude.{ℕ, ◌*◌, Bool, true, false, not, ◌||◌, List, [], ◌∷◌, ◌++◌, eqb, ltb, length, drop}
use Rattle.std.proofs.Math.Option.{Option, none, some}
use Rattle.refusal.specs.declared.Refusal.{Refusal}
use Rattle.star_spec.specs.Call.{Call, call_of}
use Rattle.star_spec.specs.Refusals.{max_rows, cause, bad_vertices, too_many_rows, row_causes, refusal}
use Rattle.stp_spec.specs.Reader.{Read, Reading, broken, whole, opening, nothing_read, read_from}
use Rattle.stp_words.specs.Text.{words}

-- the longest text that is taken
abbrev pub max_text : ℕ
max_text = 65536

-- a text that is too long is broken there, whatever it holds
unfoldable pub bounded : Bool → List ℕ → Reading
bounded true text = broken max_text
bounded false text = read_from (length text) opening nothing_read (words text)

unfoldable pub read_text : List ℕ → Reading
read_text text = bounded (ltb max_text (length text)) text

-- the table that was read. No mark is read; the left column stands in for the marks, which the check of the rows does not look at
unfoldable pub table_of : Read → Call
table_of r = call_of r.nodes r.left r.right r.weight r.left

-- 3: the lent columns are not 1,024, 1,024 and 4,096 bytes
unfoldable pub bad_columns : ℕ → ℕ → ℕ → Option Refusal
bad_columns l r w = cause (not (eqb l max_rows) || not (eqb r max_rows) || not (eqb w (4 * max_rows))) 3 0

-- 13: the E lines are not as many as Edges says
unfoldable pub bad_edges : Read → Option Refusal
bad_edges r = cause (not (eqb r.rows r.edges)) 13 0

-- the causes of an import in order, of which 12 is that the layout is broken; l, r and w are the lent columns' lengths
unfoldable pub import_causes : Reading → ℕ → ℕ → ℕ → List (Option Refusal)
import_causes (broken place) l r w = some (record { number = 12; place = place }) ∷ []
import_causes (whole t) l r w =
    bad_edges t ∷ bad_vertices t.nodes ∷ too_many_rows t.rows ∷ bad_columns l r w ∷ row_causes (table_of t)

-- what an import answers: the refusal, or n and m
pub data ImportAnswer : Type 0 where
  untaken : Refusal → ImportAnswer
  taken : ℕ → ℕ → ImportAnswer

unfoldable pub sizes : Reading → ImportAnswer
sizes (broken place) = untaken (record { number = 12; place = place })
sizes (whole t) = taken t.nodes t.rows

unfoldable pub answered : Option Refusal → Reading → ImportAnswer
answered none x = sizes x
answered (some r) x = untaken r

unfoldable pub imported : List ℕ → ℕ → ℕ → ℕ → ImportAnswer
imported text l r w = answered (refusal (import_causes (read_text text) l r w)) (read_text text)

-- a lent column afterwards: the rows that were read, and below them what it held; a refusal changes nothing
unfoldable pub filled : Option Refusal → List ℕ → List ℕ → List ℕ
filled none column lent = column ++ drop (length column) lent
filled (some r) column lent = lent

unfoldable pub columns_of : Reading → Read
columns_of (broken place) = nothing_read
columns_of (whole t) = t

unfoldable pub import_refusal : List ℕ → List ℕ → List ℕ → List ℕ → Option Refusal
import_refusal text left right weight = refusal (import_causes (read_text text) (length left) (length right) (length weight))

unfoldable pub left_after : List ℕ → List ℕ → List ℕ → List ℕ → List ℕ
left_after text left right weight = filled (import_refusal text left right weight) (columns_of (read_text text)).left left

unfoldable pub right_after : List ℕ → List ℕ → List ℕ → List ℕ → List ℕ
right_after text left right weight = filled (import_refusal text left right weight) (columns_of (read_text text)).right right

unfoldable pub weight_after : List ℕ → List ℕ → List ℕ → List ℕ → List ℕ
weight_after text left right weight = filled (import_refusal text left right weight) (columns_of (read_text text)).weight weight
