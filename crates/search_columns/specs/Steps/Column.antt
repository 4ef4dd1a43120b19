-- What the searches have in common at one column. Z is the set of rows still in the running and C the set of rows whose bit in the column is 1.
-- GREAT, MIN and MAX compare numbers without a sign: those of the columns of which the first is turned over. Assumes nothing.
use Rattle.std.specs.Prelude.{ℕ, suc, Bool, cond, eqb}
use Rattle.rowset.specs.Sets.{up_to, both, without}
use Rattle.slice.specs.Slices.{size}

-- the rows of Z whose bit in the column is b
unfoldable pub kept : Bool → (ℕ → Bool) → (ℕ → Bool) → ℕ → Bool
kept b Z C = cond b (both Z C) (without Z C)

-- the columns, with the first that is read turned over: a 1 for each row of 1 to 1,024 that had 0
unfoldable pub turned : ℕ → (ℕ → ℕ → Bool) → ℕ → ℕ → Bool
turned first c j = cond (eqb j (suc first)) (without (up_to size) (c j)) (c j)
