-- What MIN and MAX do at one column: Z is the set of rows still in the running and C the set of rows whose bit in the column is 1. And what they give, of numbers without a sign.
-- Assumes nothing.
use Rattle.std.specs.Prelude.{ℕ, Bool, true, false, not, cond, ◌&&◌, ◌≡◌, ltb}
use Rattle.rowset.specs.Sets.{any}
use Rattle.search_columns.specs.Steps.Column.{kept}

-- the rows of Z whose bit in the column is b, and Z itself where there is no such row among 1 to m
unfoldable pub preferred : ℕ → Bool → (ℕ → Bool) → (ℕ → Bool) → ℕ → Bool
preferred m b Z C = cond (any m (kept b Z C)) (kept b Z C) Z

-- P has one row or none
abbrev pub AtMostOne : (ℕ → Bool) → Type 0
AtMostOne P = (i k : ℕ) → P i ≡ true → P k ≡ true → i ≡ k

-- the selected rows whose number is the largest, where `high` is true, or the smallest
unfoldable pub extreme : Bool → ℕ → (ℕ → ℕ) → (ℕ → Bool) → ℕ → Bool
extreme true m f X i = X i && not (any m (λ k. X k && ltb (f i) (f k)))
extreme false m f X i = X i && not (any m (λ k. X k && ltb (f k) (f i)))
