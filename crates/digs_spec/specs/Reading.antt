-- A reader of dig lists: the bytes are split at LF, a line at single spaces, and the pieces are decimal numbers.
-- Assumes nothing.
use Rattle.std.specs.Prelude.{ℕ, Bool, true, false, cond, ◌&&◌, List, [], ◌∷◌, eqb, ℤ, pos, ◌+ℤ◌, length, get_or}
use Rattle.std.proofs.Math.Option.{Option, none, some, map}
use Rattle.decimal.specs.Reading.{read_natural, read_integer}
use Rattle.stp_words.specs.Bytes.{bytes}
use Rattle.stp_words.specs.Numbers.{is_empty}

-- the pieces of a text between the bytes that equal `at`
unfoldable pub on_first : ℕ → List (List ℕ) → List (List ℕ)
on_first b [] = (b ∷ []) ∷ []
on_first b (w ∷ ws) = (b ∷ w) ∷ ws

unfoldable pub split : ℕ → List ℕ → List (List ℕ)
split at [] = [] ∷ []
split at (b ∷ t) = cond (eqb b at) ([] ∷ split at t) (on_first b (split at t))

-- the same bytes
unfoldable pub alike : List ℕ → List ℕ → Bool
alike [] [] = true
alike [] (b ∷ t) = false
alike (a ∷ s) [] = false
alike (a ∷ s) (b ∷ t) = eqb a b && alike s t

-- a row of a list
pub record Dig : Type 0 where
  pub position : ℕ
  pub left : ℕ
  pub right : ℕ
  pub weight : ℤ

-- what is read of a list: its rows in order, and the number on its last line
pub record Listed : Type 0 where
  pub rows : List Dig
  pub total : ℤ

-- the row of four pieces: three naturals and an integer
unfoldable pub dig_from : Option ℕ → Option ℕ → Option ℕ → Option ℤ → Option Dig
dig_from (some p) (some l) (some r) (some w) = some (record { position = p; left = l; right = r; weight = w })
dig_from (some p) (some l) (some r) none = none
dig_from (some p) (some l) none w = none
dig_from (some p) none r w = none
dig_from none l r w = none

unfoldable pub read_row : List (List ℕ) → Option Dig
read_row ws =
    cond (eqb (length ws) 4) (dig_from (read_natural (get_or ws 0 [])) (read_natural (get_or ws 1 [])) (read_natural (get_or ws 2 [])) (read_integer (get_or ws 3 []))) none

-- the total of two pieces: the word Total and an integer
unfoldable pub read_total : List (List ℕ) → Option ℤ
read_total ws = cond (eqb (length ws) 2 && alike (get_or ws 0 []) (bytes "Total")) (read_integer (get_or ws 1 [])) none

-- what is left of a text that ends with LF, after its last line: one piece without bytes
unfoldable pub at_end : List (List ℕ) → Bool
at_end [] = false
at_end (e ∷ []) = is_empty e
at_end (e ∷ f ∷ ls) = false

-- the list with a row before its rows
unfoldable pub with_row : Option Dig → Option Listed → Option Listed
with_row (some d) (some x) = some (record { rows = d ∷ x.rows; total = x.total })
with_row (some d) none = none
with_row none x = none

-- the lines of a list: rows, and a last line with the total
unfoldable pub read_lines : List (List ℕ) → Option Listed
read_lines [] = none
read_lines (l ∷ ls) =
    cond (at_end ls) (map (λ z. record { rows = []; total = z }) (read_total (split 32 l))) (with_row (read_row (split 32 l)) (read_lines ls))

-- the list that bytes are, if they are one; 10 is LF and 32 a space
unfoldable pub read : List ℕ → Option Listed
read text = read_lines (split 10 text)

-- the sum of the rows' weights
unfoldable pub weighed : List Dig → ℤ
weighed [] = pos 0
weighed (d ∷ ds) = d.weight +ℤ weighed ds

-- whether a row with this position is listed
unfoldable pub listed : ℕ → List Dig → Bool
listed i [] = false
listed i (d ∷ ds) = cond (eqb d.position i) true (listed i ds)
