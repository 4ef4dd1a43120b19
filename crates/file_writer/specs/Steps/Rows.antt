-- A table file as it is put, piece by piece. Used by proofs only.
-- Assumes nothing.
use Rattle.std.specs.Prelude.{ℕ, zero, suc, Bool, true, false, List, [], ◌∷◌, ◌++◌, ℤ, get_or}
use Rattle.decimal.specs.Decimal.{natural, integer}
use Rattle.file_spec.specs.Line.{Trench, End, marked}
use Rattle.file_spec.specs.Writer.{end_bytes}
use Rattle.stp_words.specs.Bytes.{bytes}

-- the number at position k of a column, 0 past its end
unfoldable pub entry_at : List ℕ → ℕ → ℕ
entry_at l k = get_or l k 0

-- a word, and the byte after it
unfoldable pub word_put : List ℕ → ℕ → List ℕ
word_put w s = w ++ (s ∷ [])

unfoldable pub header_put : Bool → ℕ → List ℕ
header_put true s = word_put (bytes "left") s ++ (word_put (bytes "right") s ++ (word_put (bytes "price") s ++ word_put (bytes "mark") 10))
header_put false s = []

unfoldable pub count_put : ℕ → ℕ → List ℕ
count_put s n = word_put (bytes "junctions") s ++ word_put (natural n) 10

unfoldable pub struck_put : Bool → ℕ → List ℕ
struck_put true s = word_put (bytes "struck") s
struck_put false s = []

unfoldable pub ends_put : ℕ → End → End → List ℕ
ends_put s a b = word_put (end_bytes a) s ++ word_put (end_bytes b) s

unfoldable pub rest_put : ℕ → ℤ → ℕ → List ℕ
rest_put s p m = word_put (integer p) s ++ word_put (natural m) 10

-- a trench's line
unfoldable pub line_put : ℕ → Trench → List ℕ
line_put s t = struck_put t.struck s ++ (ends_put s t.left t.right ++ rest_put s t.price t.mark)

-- the lines of the first k rows
unfoldable pub rows_put : (ℕ → List ℕ) → ℕ → List ℕ
rows_put line zero = []
rows_put line (suc k) = rows_put line k ++ line (suc k)
