-- `table::row_of` meets its contract. The loop's invariant: r is the number in the first columns. Assumes nothing.
use Prim.Native.Nat.{ℕ, suc, ◌+◌, ◌*◌, ◌^◌, ◌≤◌, ◌<◌}
use mathlib.Core.Path.{◌≡◌, ap, ◌∙◌}
use native.Mathlib.Nat.{zero-add, lt_of_lt_of_le}
use native.Mathlib.Numerals.{add-one}
use native.Mathlib.Omega.{arith}
use lib.ListN.{length}
use lib.Pow.{pow_mono}
use borrow.Author.Rules.{rules}
use Rattle.rowset.specs.Columns.{in_columns}
use Rattle.slice.proofs.Stores.{length-unmap}
use Rattle.table.specs.Tables.{column, row}
use Rattle.table.specs.declared.Table.{Table}
use Rattle.rowset.proofs.Numbers.{number-below}
use Rattle.table.proofs.Columns.{as_number}
use Rattle.table.proofs.Laws.{column-at}
use Rattle.table.proofs.row_of.Goals as goal
use Rattle.table.proofs.row_of.Goals.{After-from}

-- with one column more r is the number in the first j + 1 columns, which fits
grown : (c : After-from) →
    c.loop-column.r * 2 + c.from.result
    ≡ in_columns (column c.args.t) 0 (c.loop-column.column-index + 1) c.args.i
unfolding in_columns
grown c =
    let t = c.args.t in
    let i = c.args.i in
    let j = c.loop-column.column-index in
    let h : length t.columns ≡ 32 = search (rules, length-unmap) in
    let bit : c.get.result ≡ column t (suc j) i = c.get.ensures ∙ ap (λ f. f i) (column-at t j _ (omega arith)) in
    rw (add-one, zero-add) (omega (arith, as_number c.get.result bit))

fits : (t : Table) (i j n : ℕ) → j ≤ n → in_columns (column t) 0 j i < 2 ^ n
fits t i j n h = lt_of_lt_of_le (number-below (column t) 0 j i) (pow_mono h)

pub loop-column-init : goal.loop-column-init
unfolding in_columns
loop-column-init c = search rules

pub overflow_mul-r : goal.overflow_mul-r
overflow_mul-r c = omega (arith, fits c.args.t c.args.i c.loop-column.column-index 31 (omega arith))

pub overflow_add-r : goal.overflow_add-r
overflow_add-r c =
    let a = c.args in
    omega (arith, grown (goal.at.overflow_add-r c).After-from, fits a.t a.i (c.loop-column.column-index + 1) 32 (omega arith))

pub loop-column-preserved : goal.loop-column-preserved
loop-column-preserved c = grown (goal.at.loop-column-preserved c).After-from

pub returns : goal.returns
unfolding row
returns c =
    let e : c.loop-column.column-index ≡ 32 = omega arith in
    rw e at c.loop-column.invariant
