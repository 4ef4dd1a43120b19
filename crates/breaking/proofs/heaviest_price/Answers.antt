-- `breaking::heaviest_price` meets its contract: FND of MAX over the loaded weights, and that row's weight. Assumes nothing.
use borrow.Author.Rules.{rules}
use Prim.Native.Nat.{ℕ}
use mathlib.Core.Bool.{Bool}
use mathlib.Core.Path.{◌≡◌}
use Rattle.table_loads.proofs.Numbers.{zeros, length-put}
use Rattle.rowset.specs.Columns.{width, in_columns}
use Rattle.rowset.specs.Integers.{integer_in, signed}
use Rattle.breaking.specs.Steps.Routes.{heaviest_price}
use Rattle.breaking.proofs.heaviest_price.Goals as goal

-- the integer in all columns is that of the number in them
all-columns : (c : ℕ → ℕ → Bool) (row : ℕ → ℕ) → in_columns c 0 width ≡ row → integer_in c 0 width ≡ (λ i. signed (row i))
unfolding integer_in
all-columns c row e = rw (← e)

pub slice_bounds-max_from-end : goal.slice_bounds-max_from-end
slice_bounds-max_from-end c = search (rules, length-put _ _ 4 c.put_prices.ensures.columns zeros)

pub returns : goal.returns
unfolding heaviest_price
returns c =
    rw (c.row_weight.ensures, c.fnd-heaviest.ensures, c.max_from.ensures, all-columns _ _ (c.put_prices.ensures.rows zeros))
