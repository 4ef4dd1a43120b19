-- `districts::city_of` meets its contract, by what the load ensures of the weights' columns: those that are left out only repeat the sign. Assumes nothing.
use borrow.Author.Rules.{rules}
use Rattle.table_loads.proofs.Numbers.{zeros, length-put}
use Rattle.table_loads.proofs.Signs.{sign-integer}
use Rattle.districts.proofs.city_of.Goals as goal

pub slice_bounds-sign_columns-end : goal.slice_bounds-sign_columns-end
slice_bounds-sign_columns-end c = search (rules, length-put _ _ 4 c.put_prices.ensures.columns zeros)

pub slice_bounds-grow_city-end : goal.slice_bounds-grow_city-end
slice_bounds-grow_city-end c = search (rules, length-put _ _ 4 c.put_prices.ensures.columns zeros)

pub returns : goal.returns
returns c =
    rw (c.rows_among-used.ensures, sign-integer _ c.sign_columns-first.ensures (c.put_prices.ensures.rows zeros)) at c.grow_city.ensures
