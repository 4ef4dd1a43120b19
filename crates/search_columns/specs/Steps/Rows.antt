-- A set of rows as the words of a slice, while a search narrows it in place.
-- Assumes nothing.
use Rattle.std.specs.Prelude.{ℕ, zero, suc, ◌+◌, ◌*◌, ◌/◌, ◌<◌, Bool, false, cond, ◌&&◌, List, ◌≡◌, leb, eqb, get_or}
use Rattle.path_matrix.specs.Matrix.{has_column, matrix_column}
use Rattle.slice.specs.Slices.{component}
use Rattle.search_columns.specs.Steps.Column.{kept}

-- the rows that the words l have, as a slice's words have them
abbrev pub rows_of : List ℕ → ℕ → Bool
rows_of l = component (record { words = l })

-- no row of P stands past the first n words
abbrev pub NonePast : ℕ → (ℕ → Bool) → Type 0
NonePast n P = (i : ℕ) → 64 * n < i → P i ≡ false

-- of the first k words those up to the last that is not 0, and on to a multiple of four
unfoldable pub last_word : List ℕ → ℕ → ℕ
last_word l zero = 0
last_word l (suc k) = cond (eqb (get_or l k 0) 0) (last_word l k) (suc k)

abbrev pub words_used : List ℕ → ℕ
words_used l = (last_word l 16 + 3) / 4 * 4

-- the word whose exclusive or with a word of a column has a 1 for each row whose bit is b
unfoldable pub mask : Bool → ℕ
mask b = cond b 0 18446744073709551615

-- Z after column j + 1 of the words l: of the rows in the first `used` words those whose bit there is b, and the rows past them as they were; Z itself where there is no such column
unfoldable pub narrowed : List ℕ → ℕ → Bool → ℕ → (ℕ → Bool) → ℕ → Bool
narrowed l j b used Z i = cond (has_column l (j + 1) && leb i (64 * used)) (kept b Z (matrix_column l (j + 1)) i) (Z i)
