-- The rows that a claim marks, for columns of any length.
-- Assumes nothing.
use Rattle.std.specs.Prelude.{ℕ, Bool, cond, List, length, nat_le}
use Rattle.rowset.specs.Sets.{empty}
use Rattle.slice.specs.Slices.{size}
use Rattle.star_spec.specs.Call.{marked}

-- the marked rows of a claim that fits a slice; none where it has more than 1,024 bytes
unfoldable pub claim_rows : List ℕ → ℕ → Bool
claim_rows l = cond (nat_le (length l) size) (marked l) empty
