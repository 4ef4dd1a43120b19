-- The reader of a table file, line by line: the first line that cannot stand is where reading ends.
-- Assumes nothing.
use Rattle.std.specs.Prelude.{ℕ, suc, max, Bool, true, false, not, cond, ◌&&◌, ◌||◌, List, [], ◌∷◌, ◌++◌, eqb, leb, ltb, length, take, drop}
use Rattle.std.proofs.Math.Option.{Option, none, some}
use Rattle.rowset.specs.Integers.{to_bits}
use Rattle.star_spec.specs.Door.{bytes_of}
use Rattle.file_spec.specs.Names.{equal, position, met, met_at}
use Rattle.file_spec.specs.Pieces.{Piece, lines}
use Rattle.file_spec.specs.Line.{Line, Trench, End, number, name, nothing, counting, trench, wrong, line_of, not_count, mixed, many_names, many_rows}

-- the table so far: 1 where junctions are numbers, 2 where they are names, 0 before the first one; the names in the order in which they were met, and the place
-- where each was first met; what a line junctions N says; and the columns of the trenches in file order, with the place of each one's first field
pub record Read : Type 0 where
  pub kind : ℕ
  pub names : List (List ℕ)
  pub names_at : List ℕ
  pub told : Option ℕ
  pub left : List ℕ
  pub right : List ℕ
  pub weight : List ℕ
  pub marks : List ℕ
  pub struck : List Bool
  pub rows_at : List ℕ

unfoldable pub nothing_read : Read
nothing_read =
    record { kind = 0; names = []; names_at = []; told = none; left = []; right = []; weight = []; marks = []; struck = []; rows_at = [] }

pub data Reading : Type 0 where
  broken : ℕ → ℕ → Reading
  read : Read → Reading

unfoldable pub kind_of : End → ℕ
kind_of (number v) = 1
kind_of (name w) = 2

-- the names after a junction is met, and the junction's number among them
unfoldable pub met_end : End → List (List ℕ) → List (List ℕ)
met_end (number v) ns = ns
met_end (name w) ns = met w ns

-- the places of the names after a junction is met at a place
unfoldable pub met_end_at : ℕ → End → List (List ℕ) → List ℕ → List ℕ
met_end_at at (number v) ns places = places
met_end_at at (name w) ns places = met_at at w ns places

unfoldable pub number_in : List (List ℕ) → End → ℕ
number_in ns (number v) = v
number_in ns (name w) = suc (position w ns)

unfoldable pub with_told : Read → ℕ → Read
with_told r v =
    record {
      kind = r.kind;
      names = r.names;
      names_at = r.names_at;
      told = some v;
      left = r.left;
      right = r.right;
      weight = r.weight;
      marks = r.marks;
      struck = r.struck;
      rows_at = r.rows_at;
    }

unfoldable pub with_row : Read → List (List ℕ) → List ℕ → Trench → Read
with_row r ns places t =
    record {
      kind = kind_of t.left;
      names = ns;
      names_at = places;
      told = r.told;
      left = r.left ++ (number_in ns t.left ∷ []);
      right = r.right ++ (number_in ns t.right ∷ []);
      weight = r.weight ++ bytes_of 4 (to_bits 32 t.price);
      marks = r.marks ++ (t.mark ∷ []);
      struck = r.struck ++ (t.struck ∷ []);
      rows_at = r.rows_at ++ (t.at ∷ []);
    }

unfoldable pub names_after : Read → Trench → List (List ℕ)
names_after r t = met_end t.right (met_end t.left r.names)

unfoldable pub names_at_after : Read → Trench → List ℕ
names_at_after r t = met_end_at t.right_at t.right (met_end t.left r.names) (met_end_at t.left_at t.left r.names r.names_at)

unfoldable pub other_kind : Read → End → Bool
other_kind r e = not (eqb r.kind 0) && not (eqb r.kind (kind_of e))

-- one trench more
unfoldable pub laid : Read → Trench → Reading
laid r t =
    cond (other_kind r t.left) (broken mixed t.left_at)
    (cond (not (eqb (kind_of t.left) (kind_of t.right))) (broken mixed t.right_at)
    (cond (leb 1024 (length r.left)) (broken many_rows t.at)
    (cond (ltb 255 (length (met_end t.left r.names))) (broken many_names t.left_at)
    (cond (ltb 255 (length (names_after r t))) (broken many_names t.right_at)
    (read (with_row r (names_after r t) (names_at_after r t) t))))))

unfoldable pub recount : Read → Option ℕ → ℕ → ℕ → Reading
recount r none v at = read (with_told r v)
recount r (some u) v at = broken not_count at

unfoldable pub next : Read → Line → Reading
next r nothing = read r
next r (counting v at) = recount r r.told v at
next r (trench t) = laid r t
next r (wrong reason at) = broken reason at

unfoldable pub follow : Reading → (Read → Reading) → Reading
follow (broken reason at) go = broken reason at
follow (read r) go = go r

unfoldable pub read_lines : Read → List Piece → Reading
read_lines r [] = read r
read_lines r (p ∷ ps) = follow (next r (line_of p)) (λ r'. read_lines r' ps)

-- a byte order mark is passed over
unfoldable pub opens_marked : List ℕ → Bool
opens_marked text = equal (take 3 text) (239 ∷ 187 ∷ 191 ∷ [])

unfoldable pub body_at : List ℕ → ℕ
body_at text = cond (opens_marked text) 3 0

unfoldable pub read_text : List ℕ → Reading
read_text text = read_lines nothing_read (lines (body_at text) (drop (body_at text) text))

-- the number of junctions: what a line says, else the largest number or the number of names
unfoldable pub largest : List ℕ → ℕ
largest [] = 0
largest (v ∷ vs) = max v (largest vs)

unfoldable pub told_or : Option ℕ → ℕ → ℕ
told_or none v = v
told_or (some u) v = u

unfoldable pub junctions : Read → ℕ
junctions r = told_or r.told (cond (eqb r.kind 2) (length r.names) (max (largest r.left) (largest r.right)))
