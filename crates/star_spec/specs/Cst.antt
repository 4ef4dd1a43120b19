-- CST, the tree checker: its verdict on the claim.
-- Assumes nothing.
use Rattle.std.specs.Prelude.{ℕ, zero, suc, eqb, ℤ, nat_abs, ◌-ℤ◌, Bool, true, false, ◌&&◌}
use Rattle.std.proofs.Math.Option.{Option, none, some}
use Rattle.refusal.specs.declared.Refusal.{Refusal}
use Rattle.rowset.specs.Bytes.{in_row}
use Rattle.rowset.specs.Searches.{greater_than, same_as}
use Rattle.rowset.specs.Sets.{one_of, without, any, uppermost}
use Rattle.star_spec.specs.Call.{Call, rows_of, used, weight_of, claimed, claim_weight}
use Rattle.star_spec.specs.MatrixPath.{path_column}
use Rattle.star_spec.specs.Refusals.{cst_causes, refusal}

-- what CST answers: refused; passed, with the claim's weight and whether it is the only cheapest tree; or lighter, with the rows out and in of the exchange and the saving
pub data Answer : Type 0 where
  refused : Refusal → Answer
  passed : (weight : ℤ) (only : Bool) → Answer
  lighter : (out into saving : ℕ) → Answer

-- the rows on the tree path between row i's ends: the xor of the columns of its two vertices, from vertex 1
unfoldable pub between : Call → ℕ → ℕ → Bool
between c i = one_of (path_column c 1 (in_row 1 c.left i)) (path_column c 1 (in_row 1 c.right i))

-- the rows on that path that are heavier than row i
unfoldable pub heavier : Call → ℕ → ℕ → Bool
heavier c i = greater_than (weight_of c) (weight_of c i) (between c i)

-- row i is in use and unmarked, and a heavier row lies on the path between its ends
unfoldable pub improves : Call → ℕ → Bool
improves c i = without (used c) (claimed c) i && any (rows_of c) (heavier c i)

-- the uppermost such row comes in, 0 if there is none, and the uppermost heavier row on its path goes out
unfoldable pub row_in : Call → ℕ
row_in c = uppermost (rows_of c) (improves c)

unfoldable pub row_out : Call → ℕ
row_out c = uppermost (rows_of c) (heavier c (row_in c))

-- the rows on the path between row i's ends that weigh as much as row i
unfoldable pub equals : Call → ℕ → ℕ → Bool
equals c i = same_as (weight_of c) (weight_of c i) (between c i)

-- row i is in use and unmarked, and a row of equal weight lies on the path between its ends
unfoldable pub replaces : Call → ℕ → Bool
replaces c i = without (used c) (claimed c) i && any (rows_of c) (equals c i)

-- the uppermost such row, 0 if there is none, and the uppermost row of equal weight on its path: the exchange of these two gives another tree of the same weight
unfoldable pub equal_in : Call → ℕ
equal_in c = uppermost (rows_of c) (replaces c)

unfoldable pub equal_out : Call → ℕ
equal_out c = uppermost (rows_of c) (equals c (equal_in c))

-- yes: no unmarked row has a row of equal weight on its path
unfoldable pub only : Call → Bool
only c = eqb (equal_in c) 0

-- no unmarked row with a heavier row on its path: passed, with yes or no; else the uppermost such row comes in, and the uppermost heavier row goes out;
-- the saving is the difference of their weights
unfoldable pub judged : Call → ℕ → ℕ → Answer
judged c zero out = passed (claim_weight c) (only c)
judged c (suc i) out = lighter out (suc i) (nat_abs (weight_of c out -ℤ weight_of c (suc i)))

unfoldable pub verdict : Call → Option Refusal → Answer
verdict c (some r) = refused r
verdict c none = judged c (row_in c) (row_out c)

-- CST's answer
unfoldable pub cst : Call → Answer
cst c = verdict c (refusal (cst_causes c))

-- the rows of an exchange that gives another tree of the same weight; 0 and 0 where there is none to give
pub record EqualRows : Type 0 where
  pub out : ℕ
  pub into : ℕ

-- where the claim passes and is not the only cheapest tree, the two rows; in every other answer 0 and 0
unfoldable pub rows_beside : Call → Answer → EqualRows
rows_beside c (refused r) = record { out = 0; into = 0 }
rows_beside c (passed weight true) = record { out = 0; into = 0 }
rows_beside c (passed weight false) = record { out = equal_out c; into = equal_in c }
rows_beside c (lighter out into saving) = record { out = 0; into = 0 }

unfoldable pub equal_rows : Call → EqualRows
equal_rows c = rows_beside c (cst c)
