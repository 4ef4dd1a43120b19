-- What CST reads from a path matrix: the first exchange that the rows on the tree path between a row's ends allow.
-- Assumes nothing.
use Rattle.std.specs.Prelude.{ℕ, ◌≤◌, Bool, List, ◌≡◌, ℤ, nat_abs, ◌-ℤ◌}
use Rattle.std.proofs.Math.Option.{none}
use Rattle.rowset.specs.Bytes.{in_row}
use Rattle.rowset.specs.Integers.{signed}
use Rattle.rowset.specs.Searches.{greater_than, same_as}
use Rattle.rowset.specs.Sets.{both, any, uppermost}
use Rattle.path_matrix.specs.Matrix.{matrix_column}
use Rattle.slice.specs.Slices.{size}
use Rattle.star_spec.specs.Call.{Call}
use Rattle.star_spec.specs.MatrixPath.{path_column}
use Rattle.star_spec.specs.Refusals.{cst_causes, refusal}
use Rattle.cst_compare.specs.Steps.Compared.{Search, found_on}
use Rattle.cst.specs.declared.Equal.{Equal}
use Rattle.cst.specs.declared.Exchange.{Exchange}

-- the weight of row i in the bytes of a weight column
abbrev pub weight_in : List ℕ → ℕ → ℤ
weight_in weight i = signed (in_row 4 weight i)

-- whether it finds a row there, compared with row i's own weight, and the uppermost that it finds
unfoldable pub some_on : Search → (matrix left right weight : List ℕ) → ℕ → Bool
some_on search matrix left right weight i = any size (found_on search (weight_in weight) (weight_in weight i) matrix left right i)

unfoldable pub first_on : Search → (matrix left right weight : List ℕ) → ℕ → ℕ
first_on search matrix left right weight i = uppermost size (found_on search (weight_in weight) (weight_in weight i) matrix left right i)

-- the uppermost of the rows for which it finds one, 0 where there is none
unfoldable pub row_with : Search → (matrix left right weight : List ℕ) → (ℕ → Bool) → ℕ
row_with search matrix left right weight rows = uppermost size (both rows (some_on search matrix left right weight))

-- the exchange of row out for row into
unfoldable pub exchange_of : List ℕ → (out into : ℕ) → Exchange
exchange_of weight out into = record { out = out; into = into; saving = nat_abs (weight_in weight out -ℤ weight_in weight into) }

-- the uppermost of the rows that has a heavier row comes in, and its uppermost heavier row goes out; both are 0 where there is none
unfoldable pub first_lighter : (matrix left right weight : List ℕ) → (ℕ → Bool) → Exchange
first_lighter matrix left right weight rows =
    let i = row_with greater_than matrix left right weight rows in
    exchange_of weight (first_on greater_than matrix left right weight i) i

-- the same with rows of equal weight
unfoldable pub first_equal : (matrix left right weight : List ℕ) → (ℕ → Bool) → Equal
first_equal matrix left right weight rows =
    let i = row_with same_as matrix left right weight rows in
    record { out = first_on same_as matrix left right weight i; into = i }

-- a call that CST does not refuse, and a matrix with its path columns from vertex 1
pub record Walked (c : Call) (matrix : List ℕ) : Type 0 where
  pub unrefused : refusal (cst_causes c) ≡ none
  pub columns : (j : ℕ) → 1 ≤ j → j ≤ c.n → matrix_column matrix j ≡ path_column c 1 j
