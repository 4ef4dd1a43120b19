-- A table file read into lent columns: what is answered, and the columns afterwards.
-- Assumes nothing.
use Rattle.std.specs.Prelude.{ℕ, zero, suc, ◌+◌, ◌*◌, Bool, true, false, not, cond, ◌||◌, List, [], ◌∷◌, ◌++◌, eqb, ltb, length, drop, get_or}
use Rattle.rowset.specs.Words.{column_words, column_words_from}
use Rattle.star_spec.specs.Refusals.{max_rows}
use Rattle.file_spec.specs.Line.{too_long}
use Rattle.file_spec.specs.Reader.{Read, Reading, broken, read, read_text, junctions}

-- the longest text that is read, and the most names
abbrev pub max_text : ℕ
max_text = 16777216

abbrev pub max_names : ℕ
max_names = 255

-- a text that is too long is broken there, whatever it holds
unfoldable pub bounded : Bool → List ℕ → Reading
bounded true text = broken too_long max_text
bounded false text = read_text text

unfoldable pub reading : List ℕ → Reading
reading text = bounded (ltb max_text (length text)) text

-- the lent columns: ends, prices and marks of 1,024 rows, which rows are in use, where each name begins and ends in the text, and where each row's line does
pub record Lent : Type 0 where
  pub left : List ℕ
  pub right : List ℕ
  pub weight : List ℕ
  pub mark : List ℕ
  pub in_use : List ℕ
  pub starts : List ℕ
  pub ends : List ℕ
  pub rows : List ℕ

-- 3: a column has another length
unfoldable pub wrong_sizes : (left right weight mark in_use starts ends rows : ℕ) → Bool
wrong_sizes left right weight mark in_use starts ends rows =
    not (eqb left max_rows) || not (eqb right max_rows) || not (eqb weight (4 * max_rows)) || not (eqb mark max_rows) || not (eqb in_use column_words)
    || not (eqb starts max_names)
    || not (eqb ends max_names)
    || not (eqb rows max_rows)

unfoldable pub wrong_lent : Lent → Bool
wrong_lent l =
    wrong_sizes (length l.left) (length l.right) (length l.weight) (length l.mark) (length l.in_use) (length l.starts) (length l.ends)
    (length l.rows)

-- what is answered: the refusal with its number and place, or n, the number of names and the number of rows
pub data FileAnswer : Type 0 where
  untaken : (number place : ℕ) → FileAnswer
  taken : (n names rows : ℕ) → FileAnswer

unfoldable pub answered : Reading → FileAnswer
answered (broken reason at) = untaken reason at
answered (read r) = taken (junctions r) (length r.names) (length r.left)

-- a fault of the lent columns is told before the text is read
unfoldable pub answered_if : Bool → List ℕ → FileAnswer
answered_if true text = untaken 3 0
answered_if false text = answered (reading text)

unfoldable pub file_answer : List ℕ → Lent → FileAnswer
file_answer text l = answered_if (wrong_lent l) text

-- row i, counted from 1, is one of the rows and not struck
unfoldable pub unstruck : List Bool → ℕ → Bool
unstruck struck zero = false
unstruck struck (suc i) = not (get_or struck i true)

-- where the names end
unfoldable pub names_end : List ℕ → List (List ℕ) → List ℕ
names_end [] ns = []
names_end (at ∷ places) [] = []
names_end (at ∷ places) (w ∷ ns) = (at + length w) ∷ names_end places ns

-- a lent column afterwards: what was read, and below it what it held
unfoldable pub over : List ℕ → List ℕ → List ℕ
over column lent = column ++ drop (length column) lent

unfoldable pub lent_over : Read → Lent → Lent
lent_over r l =
    record {
      left = over r.left l.left;
      right = over r.right l.right;
      weight = over r.weight l.weight;
      mark = over r.marks l.mark;
      in_use = column_words_from (unstruck r.struck) 0 column_words;
      starts = over r.names_at l.starts;
      ends = over (names_end r.names_at r.names) l.ends;
      rows = over r.rows_at l.rows;
    }

-- a refusal changes nothing
unfoldable pub filled : Reading → Lent → Lent
filled (broken reason at) l = l
filled (read r) l = lent_over r l

unfoldable pub filled_if : Bool → List ℕ → Lent → Lent
filled_if true text l = l
filled_if false text l = filled (reading text) l

unfoldable pub lent_after : List ℕ → Lent → Lent
lent_after text l = filled_if (wrong_lent l) text l
