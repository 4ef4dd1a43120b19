-- The line of a place in a text, counted from 1: LF, CR or CR with LF after it end a line.
-- Assumes nothing.
use Rattle.std.specs.Prelude.{ℕ, suc, Bool, true, false, not, cond, ◌&&◌, List, [], ◌∷◌, eqb, take}

-- the line after a byte: one more after CR, and after LF where the byte before it was not CR
unfoldable pub line_after : Bool → ℕ → ℕ → ℕ
line_after after_cr k b = cond (eqb b 13) (suc k) (cond (eqb b 10 && not after_cr) (suc k) k)

unfoldable pub line_from : Bool → ℕ → List ℕ → ℕ
line_from after_cr k [] = k
line_from after_cr k (b ∷ t) = line_from (eqb b 13) (line_after after_cr k b) t

unfoldable pub line_at : List ℕ → ℕ → ℕ
line_at text place = line_from false 1 (take place text)
