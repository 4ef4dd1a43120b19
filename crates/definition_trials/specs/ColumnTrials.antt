-- Trials of columns that repeat column 1, where column 2 does not.
-- Assumes nothing.
use Rattle.std.specs.Prelude.{ℕ, Bool, cond, [], ◌∷◌, ◌≡◌, eqb}
use Rattle.rowset.specs.Columns.{repeated_columns}
use Rattle.rowset.specs.Trials.{these}

-- row 1 has a bit in every column but column 2
abbrev columns : ℕ → ℕ → Bool
columns j = these (cond (eqb j 2) [] (1 ∷ []))

-- none after column 1, for column 2 differs; the one after column 2; both after it
abbrev pub RepeatedHold : Type 0
RepeatedHold = (repeated_columns 2 columns 1 2 ∷ repeated_columns 2 columns 2 1 ∷ repeated_columns 2 columns 2 2 ∷ []) ≡ (0 ∷ 1 ∷ 2 ∷ [])
