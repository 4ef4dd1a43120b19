-- `digs::imported_list` meets its contract: each part is inside its column. Assumes nothing.
use lib.Seq.{length-take-le}
use mathlib.Core.Path.{sym}
use native.Mathlib.Omega.{arith}
use Rattle.digs.proofs.imported_list.Goals as goal

pub slice_bounds-table_list-end : goal.slice_bounds-table_list-end
slice_bounds-table_list-end c = let p = c.requires in sym (length-take-le _ _ (omega arith))

pub slice_bounds-table_list-end-2 : goal.slice_bounds-table_list-end-2
slice_bounds-table_list-end-2 c = let p = c.requires in sym (length-take-le _ _ (omega arith))

pub slice_bounds-table_list-end-3 : goal.slice_bounds-table_list-end-3
slice_bounds-table_list-end-3 c = let p = c.requires in sym (length-take-le _ _ (omega arith))

pub returns : goal.returns
returns c =
    let table = c.plain.ensures in
    let sizes = c.args.s in
    let left = c.args.left.now in
    rw (length-take-le sizes.m left (omega (arith, c.requires)))
    (rw (table.rows.0, table.rows.1, table.used) at c.table_list.ensures)
