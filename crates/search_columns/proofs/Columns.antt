-- The column fact: rows are ordered by the columns on the left, and where those are equal by the columns on the right, for any number of columns on either side.
-- Assumes nothing.
use Prim.Native.Nat.{ℕ, suc, ◌+◌, ◌*◌, ◌^◌, ◌<◌, compare}
use native.Mathlib.Nat.{add-suc, mul_comm}
use native.Mathlib.Numerals.{add-one}
use native.Mathlib.Omega.{arith}
use mathlib.Core.Bool.{Bool, cond}
use mathlib.Core.Path.{◌≡◌}
use Rattle.rowset.specs.Columns.{in_columns}
use Rattle.rowset.proofs.Numbers.{bit-small, number-below, number-split}
use Rattle.search_columns.proofs.Orders.{next, compare-parts}

module _ (c : ℕ → ℕ → Bool) where
  -- The column fact. A row's number in k + l columns is compared with a number v * 2 ^ l + u by the first k columns and v, and where those are equal by the last l columns and u.
  pub compare-columns : (j k l i v u : ℕ) → u < 2 ^ l
      → compare (in_columns c j (k + l) i) (v * 2 ^ l + u) ≡ next (compare (in_columns c j k i) v) (compare (in_columns c (j + k) l i) u)
  compare-columns j k l i v u h =
      rw (number-split c) (compare-parts (2 ^ l) (in_columns c j k i) v (in_columns c (j + k) l i) u (number-below c (j + k) l i) h)

  -- the number in one column is its bit
  pub number-one : (j i : ℕ) → in_columns c j 1 i ≡ cond (c (suc j) i) 1 0
  unfolding in_columns
  number-one j i = rw add-one (omega arith)

  -- the column fact at one more column: v and the bit d against k columns and the next one
  pub compare-column : (j k i v : ℕ) (d : Bool)
      → compare (in_columns c j (suc k) i) (2 * v + cond d 1 0) ≡ next (compare (in_columns c j k i) v) (compare (cond (c (j + suc k) i) 1 0) (cond d 1 0))
  compare-column j k i v d =
      rw (add-suc j k, ← number-one (j + k) i, ← add-one k, mul_comm 2 v)
      (compare-columns j k 1 i v (cond d 1 0) (bit-small d))
