-- The third pass as the machine makes it: a slice of marked rows, a count and the list of records, and beside them the words of a path matrix.
-- Assumes nothing.
use Rattle.std.specs.Prelude.{ℕ, eqb, ltb, ℤ, Bool, true, false, cond, List}
use Rattle.path_exchange.specs.Turned.{columns_turned}
use Rattle.mend_groups.specs.Steps.Machine.{State, noted}
use Rattle.mend_theory.specs.Mending.{exchange_of}
use Rattle.path_matrix.specs.Matrix.{matrix_column}
use Rattle.rowset.specs.Bytes.{in_row}
use Rattle.rowset.specs.Searches.{largest}
use Rattle.rowset.specs.Sets.{one_of, uppermost}
use Rattle.rowset.specs.Steps.Flipped.{flipped}
use Rattle.slice.specs.Slices.{size, written}

-- the rows between row i's ends: the xor of the columns of its two vertices
unfoldable pub path_of : (own left right : List ℕ) → ℕ → ℕ → Bool
path_of own left right i = one_of (matrix_column own (in_row 1 left i)) (matrix_column own (in_row 1 right i))

-- the heaviest row of a path, the uppermost among equals, where f has the weights
unfoldable pub heaviest : (f : ℕ → ℤ) → (path : ℕ → Bool) → ℕ
heaviest f path = uppermost size (largest size f path)

-- that row where it is heavier than row i, else 0
unfoldable pub out_of : (f : ℕ → ℤ) → (weight : List ℕ) → (path : ℕ → Bool) → ℕ → ℕ
out_of f weight path i = cond (ltb (flipped (in_row 4 weight i)) (flipped (in_row 4 weight (heaviest f path)))) (heaviest f path) 0

-- row e of the path goes out for row i
unfoldable pub swapped : (n : ℕ) → (path : ℕ → Bool) → (e i : ℕ) → State → State
swapped n path e i s =
    noted s (written (written s.marks e false) i true) (columns_turned s.own n e (written path i true)) (exchange_of e i)

-- the third pass at row i, a row of U that is not marked by now
unfoldable pub swap_at : (n : ℕ) → (U : ℕ → Bool) → (f : ℕ → ℤ) → (left right weight : List ℕ) → ℕ → State → State
swap_at n U f left right weight i s =
    let path = path_of s.own left right i in
    let e = out_of f weight path i in
    cond (U i) (cond (s.marks i) s (cond (eqb e 0) s (swapped n path e i s))) s
