-- A table in lent columns as it is written: a trench a row, whose ends are numbers, or names that are parts of a text.
-- Assumes nothing.
use Rattle.std.specs.Prelude.{ℕ, zero, suc, ◌+◌, ◌*◌, ◌-◌, ◌≤◌, eqb, length, get_or, Bool, not, cond, List, [], ◌∷◌}
use Rattle.file_meaning.specs.Means.{EndOf}
use Rattle.file_spec.specs.Line.{Trench, End, number, name, marked}
use Rattle.file_spec.specs.Writer.{end_bytes}
use Rattle.file_text.specs.Steps.Spans.{part}
use Rattle.rowset.specs.Bytes.{in_row}
use Rattle.rowset.specs.Integers.{signed}
use Rattle.rowset.specs.Words.{in_words}
use Rattle.file_writer.specs.Forms.{text_by}
use Rattle.file_writer.specs.RoundTrip.{Writable}

-- what is lent: a text, where each name begins and ends in it, the words of the rows in use, and the columns of the rows
pub record Sheet : Type 0 where
  pub text : List ℕ
  pub starts : List ℕ
  pub ends : List ℕ
  pub words : List ℕ
  pub left : List ℕ
  pub right : List ℕ
  pub weight : List ℕ
  pub mark : List ℕ

abbrev pub sheet_of : (text starts ends words left right weight mark : List ℕ) → Sheet
sheet_of text starts ends words left right weight mark =
    record { text = text; starts = starts; ends = ends; words = words; left = left; right = right; weight = weight; mark = mark }

-- the name of a junction, counted from 1
unfoldable pub name_of : (text starts ends : List ℕ) → ℕ → List ℕ
name_of text starts ends v = part text (get_or starts (v - 1) 0) (get_or ends (v - 1) 0)

-- a junction: its number, or its name where names are lent
unfoldable pub end_in : (text starts ends : List ℕ) → ℕ → End
end_in text starts ends v = cond (eqb (length starts) 0) (number v) (name (name_of text starts ends v))

-- row i as a trench; one that is not in use is struck, and has no mark
unfoldable pub trench_of : Sheet → ℕ → Trench
trench_of x i =
    record {
      struck = not (in_words x.words i);
      at = 0;
      left_at = 0;
      left = end_in x.text x.starts x.ends (in_row 1 x.left i);
      right_at = 0;
      right = end_in x.text x.starts x.ends (in_row 1 x.right i);
      price = signed (in_row 4 x.weight i);
      mark = marked (not (in_words x.words i)) (in_row 1 x.mark i);
    }

-- n rows from position k on, counted from 0
unfoldable pub trenches_from : (ℕ → Trench) → ℕ → ℕ → List Trench
trenches_from f k zero = []
trenches_from f k (suc n) = f (suc k) ∷ trenches_from f (suc k) n

-- the first m rows
abbrev pub trenches_of : Sheet → ℕ → List Trench
trenches_of x m = trenches_from (trench_of x) 0 m

-- how long a text can be: 23 bytes a row and its ends, 21 for the line of junctions, and 22 for a header
unfoldable pub room : ℕ → ℕ → ℕ
room m longest = 43 + m * (23 + 2 * longest)

abbrev pub LongestText : Type 0
LongestText =
    (header : Bool) (s n longest : ℕ) (ts : List Trench) → Writable s n ts → 3 ≤ longest → ((e : End) → EndOf ts e → length (end_bytes e) ≤ longest)
    → length (text_by header s n ts) ≤ room (length ts) longest
