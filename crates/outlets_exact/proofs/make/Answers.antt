-- `outlets_exact::make` meets its contract: there is no tree, or exchanges are made on the start. Assumes nothing.
use borrow.Author.Rules.{rules}
use mathlib.Core.Path.{refl}
use Rattle.table_loads.proofs.Numbers.{zeros, length-put}
use Rattle.table_loads.proofs.Signs.{sign-integer}
use Rattle.mst1.specs.Steps.Growth.{chosen_in}
use Rattle.outlets_exact.specs.Steps.Reduced.{joined_in, rows_in}
use Rattle.outlets_exact.proofs.Makes.{makes_none, makes-some, made-of}
use Rattle.outlets_exact.proofs.make.Goals as goal

pub slice_bounds-sign_columns-end : goal.slice_bounds-sign_columns-end
slice_bounds-sign_columns-end c = search (rules, length-put _ _ 4 c.put_prices.ensures.columns zeros)

pub slice_bounds-start_of-end : goal.slice_bounds-start_of-end
slice_bounds-start_of-end c = search (rules, length-put _ _ 4 c.put_prices.ensures.columns zeros)

pub returns-in_default : goal.returns-in_default
unfolding chosen_in joined_in rows_in
returns-in_default c =
    let starts = rw c.in_default.is at c.start_of-start.ensures.starts in
    makes_none _ _ _ c.rows_among-used.ensures (sign-integer _ c.sign_columns-first.ensures (c.put_prices.ensures.rows zeros)) starts refl refl refl

pub slice_bounds-reduce-end : goal.slice_bounds-reduce-end
slice_bounds-reduce-end c = search (rules, length-put _ _ 4 c.put_prices.ensures.columns zeros)

pub returns : goal.returns
unfolding chosen_in
returns c =
    let starts = rw c.in-Some.is at c.start_of-start.ensures.starts in
    made-of _ _ _ _ c.ok_or.ensures.value
    (makes-some _ _ _ c.rows_among-used.ensures (sign-integer _ c.sign_columns-first.ensures (c.put_prices.ensures.rows zeros)) starts refl c.start_of-start.ensures.at c.reduce-reduced.ensures)
