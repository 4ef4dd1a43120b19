-- What the code's values stand for: a price is the number of a row's 32 bits with the first one turned over. Assumes nothing.
use Rattle.std.specs.Prelude.{ℕ, ◌-◌, Bool, List}
use Rattle.path_matrix.specs.Matrix.{matrix_column}
use Rattle.outlets_kept.specs.Steps.Offers as offers
use Rattle.rowset.specs.Bytes.{in_row}
use Rattle.rowset.specs.Columns.{width}
use Rattle.rowset.specs.Integers.{integer_in}
use Rattle.rowset.specs.Steps.Flipped.{flipped}
use Rattle.outlets_swaps.specs.declared.Pick as declared
use Rattle.outlets_swaps.specs.Steps.Exchanges.{Given}

abbrev pub price_in : List ℕ → ℕ → ℕ
price_in weight i = flipped (in_row 4 weight i)

-- the ends and prices that three byte columns hold, the weights in the columns of a table that are not left out, and the rows at r
abbrev pub given_of : (left right weight weights : List ℕ) → (first : ℕ) → (at : ℕ → Bool) → Given
given_of left right weight weights first at =
    record { left = left; right = right; price = price_in weight; weight = integer_in (matrix_column weights) first (width - first); at = at }

abbrev pub pick_of : declared.Pick → offers.Pick
pick_of o = record { row = o.row; cost = o.cost }
