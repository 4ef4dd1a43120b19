-- The number of columns that MATCH reads, from column 32 to the left.
-- Assumes nothing.
use Rattle.std.specs.Prelude.{ℕ, zero, suc, ◌-◌, ◌%◌, ◌^◌, Bool, cond}
use Rattle.rowset.specs.Columns.{width, in_columns}
use Rattle.rowset.specs.Searches.{equal_to}
use Rattle.rowset.specs.Sets.{any}

-- the selected rows that equal w in the k rightmost of the 32 columns
unfoldable pub equal_right : (ℕ → ℕ → Bool) → ℕ → ℕ → (ℕ → Bool) → ℕ → Bool
equal_right c w k X = equal_to (in_columns c (width - k) k) (w % 2 ^ k) X

-- the least number from k on, and below k + n, for which p is false; k + n if there is none
unfoldable pub least_from : (ℕ → Bool) → ℕ → ℕ → ℕ
least_from p k zero = k
least_from p k (suc n) = cond (p k) (least_from p (suc k) n) k

-- the least k below n for which no selected row of 1 to m equals w in the k rightmost columns; n if there is none
unfoldable pub read_within : ℕ → ℕ → (ℕ → ℕ → Bool) → ℕ → (ℕ → Bool) → ℕ
read_within n m c w X = least_from (λ k. any m (equal_right c w k X)) 0 n

-- the number of columns that MATCH reads: the least k for which no selected row equals w in the k rightmost columns, 32 if there is none
unfoldable pub columns_read : ℕ → (ℕ → ℕ → Bool) → ℕ → (ℕ → Bool) → ℕ
columns_read m c w X = read_within width m c w X
