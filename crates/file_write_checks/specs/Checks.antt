-- Why a table in lent columns cannot be written as a table file: each cause with its number and place, in their order. Where none applies, what is written reads back.
-- Assumes nothing.
use Rattle.std.specs.Prelude.{ℕ, zero, suc, ◌*◌, ◌-◌, max, Bool, true, not, cond, ◌&&◌, ◌||◌, List, [], ◌∷◌, eqb, ltb, length, get_or}
use Rattle.std.proofs.Math.Option.{Option}
use Rattle.file_spec.specs.Names.{of_names, any_letter}
use Rattle.file_spec.specs.Pieces.{is_blank}
use Rattle.file_spec.specs.Table.{max_text, max_names}
use Rattle.file_writer.specs.Columns.{Sheet, name_of, room}
use Rattle.file_writer.specs.Forms.{is_separator, parts}
use Rattle.file_writer.specs.RoundTrip.{opens, closes}
use Rattle.refusal.specs.declared.Refusal.{Refusal}
use Rattle.rowset.specs.Bytes.{in_row}
use Rattle.rowset.specs.Sets.{uppermost}
use Rattle.rowset.specs.Words.{column_words, in_words}
use Rattle.star_spec.specs.Refusals.{max_rows, cause, cause_at, too_many_rows, or_else}
use Rattle.stp_words.specs.Bytes.{bytes}
use Rattle.stp_words.specs.Names.{same}

-- ── Lengths ──

-- 3: a column is not as long as m rows, the rows in use are not sixteen words, or the names' beginnings are not as many as their ends
unfoldable pub wrong_columns : (m right weight mark words starts ends : ℕ) → Bool
wrong_columns m right weight mark words starts ends =
    not (eqb right m) || not (eqb weight (4 * m)) || not (eqb mark m) || not (eqb words column_words) || not (eqb ends starts)

-- 3: row i is in use and past the last row
unfoldable pub past_row : List ℕ → ℕ → ℕ → Bool
past_row words m i = ltb m i && in_words words i

-- 2; 3; 26: more than 255 names; 28: the byte does not part fields
unfoldable pub size_cause : (s m : ℕ) → (wrong : Bool) → (past names : ℕ) → Option Refusal
size_cause s m wrong past names =
    or_else (too_many_rows m) (or_else (cause wrong 3 0) (or_else (cause_at 3 past) (or_else (cause (ltb max_names names) 26 0) (cause (not (is_separator s)) 28 0))))

-- ── Names and rows ──

-- the first position of 1 to m with a fault, and its refusal: a fault is its number, 0 for none
unfoldable pub first_fault : (ℕ → ℕ) → ℕ → ℕ
first_fault f m = uppermost m (λ i. not (eqb (f i) 0))

unfoldable pub fault_cause : (ℕ → ℕ) → ℕ → Option Refusal
fault_cause f m = cause_at (f (first_fault f m)) (first_fault f m)

-- a byte that a name may hold where the byte s parts the fields
unfoldable pub fits : ℕ → ℕ → Bool
fits s b = of_names b && (not (eqb b 35) && not (parts s b))

unfoldable pub all_fit : ℕ → List ℕ → Bool
all_fit s [] = true
all_fit s (b ∷ t) = fits s b && all_fit s t

-- neither a blank in front nor one behind
unfoldable pub full : List ℕ → Bool
full w = not (opens is_blank w) && not (closes is_blank w)

unfoldable pub name_fits : ℕ → List ℕ → Bool
name_fits s w = (any_letter w && all_fit s w) && full w

-- 29: the name's places do not lie in the text; 21: what stands there is no name that the file can have
unfoldable pub name_fault : ℕ → (text starts ends : List ℕ) → ℕ → ℕ
name_fault s text starts ends v =
    cond (ltb (get_or ends (v - 1) 0) (get_or starts (v - 1) 0)) 29
    (cond (ltb (length text) (get_or ends (v - 1) 0)) 29 (cond (name_fits s (name_of text starts ends v)) 0 21))

-- the largest number of an end: of names as many as there are
unfoldable pub most_end : ℕ → ℕ
most_end names = cond (eqb names 0) 255 names

unfoldable pub bad_end : ℕ → ℕ → Bool
bad_end most v = eqb v 0 || ltb most v

-- a word that opens a line of another kind
unfoldable pub opens_other : List ℕ → Bool
opens_other w = same w (bytes "struck") || same w (bytes "junctions")

-- a junction's name, where it has one
unfoldable pub name_if : (text starts ends : List ℕ) → ℕ → List ℕ
name_if text starts ends v = cond (eqb (length starts) 0) [] (name_of text starts ends v)

-- 4: an end that is 0 or has no name; of rows in use 6: a mark other than 0 and 1, and 20: a left end called struck or junctions
unfoldable pub row_fault : Sheet → ℕ → ℕ
row_fault x i =
    cond (bad_end (most_end (length x.starts)) (in_row 1 x.left i) || bad_end (most_end (length x.starts)) (in_row 1 x.right i)) 4
    (cond (in_words x.words i)
    (cond (ltb 1 (in_row 1 x.mark i)) 6 (cond (opens_other (name_if x.text x.starts x.ends (in_row 1 x.left i))) 20 0)) 0)

-- ── Room ──

-- the longest of the first k names, at least 3, as long as a number can be
unfoldable pub longest_to : (starts ends : List ℕ) → ℕ → ℕ
longest_to starts ends zero = 3
longest_to starts ends (suc k) = max (longest_to starts ends k) (get_or ends k 0 - get_or starts k 0)

-- 12: a text of 1,024 rows could be longer than one that is read; 30: it could be longer than what is lent, with the bytes that are enough
unfoldable pub room_cause : (longest size : ℕ) → Option Refusal
room_cause longest size = or_else (cause (ltb max_text (room max_rows longest)) 12 max_text) (cause (ltb size (room max_rows longest)) 30 (room max_rows longest))

-- ── All ──

unfoldable pub write_cause : ℕ → Sheet → ℕ → Option Refusal
write_cause s x size =
    or_else
    (size_cause s (length x.left)
    (wrong_columns (length x.left) (length x.right) (length x.weight) (length x.mark) (length x.words) (length x.starts) (length x.ends))
    (uppermost max_rows (past_row x.words (length x.left)))
    (length x.starts))
    (or_else (fault_cause (name_fault s x.text x.starts x.ends) (length x.starts))
    (or_else (fault_cause (row_fault x) (length x.left)) (room_cause (longest_to x.starts x.ends (length x.starts)) size)))
