-- `table_checks::row_weight` meets its contract: row 0 and a row that begins past the column's end hold 0, and any other the number in its four bytes.
-- Assumes nothing.
use Prim.Native.Nat.{suc, ◌+◌, ◌*◌, ◌-◌, ◌≤◌}
use lib.ListN.{length, get_or, get_or-eq_default}
use mathlib.Core.Path.{◌≡◌, sym}
use native.Mathlib.Omega.{arith}
use Rattle.rowset.specs.Bytes.{in_row}
use Rattle.table_checks.proofs.Laws.{little-past, little-four}
use Rattle.table_checks.proofs.row_weight.Goals as goal

pub returns-then-i-lt1 : goal.returns-then-i-lt1
unfolding in_row
returns-then-i-lt1 c = let e : c.args.i ≡ 0 = omega arith in rw e

pub returns-then-k-rows : goal.returns-then-k-rows
unfolding in_row
returns-then-k-rows c =
    let i = c.args.i in
    let e : i ≡ suc (i - 1) = omega arith in
    rw e c.quad.ensures

pub returns-then-rows-k : goal.returns-then-rows-k
unfolding in_row
returns-then-rows-k c =
    let i = c.args.i in
    let e : i ≡ suc (i - 1) = omega arith in
    rw e (sym (little-past _ _ 4 (omega arith)))

-- the last byte of a row that the column has in part is past its end
pub returns : goal.returns
unfolding in_row
returns c =
    let a = c.args in
    let w = a.weight.now in
    let k = a.i - 1 in
    let e : a.i ≡ suc (a.i - 1) = omega arith in
    let end : length w ≤ 4 * k + 3 = omega arith in
    let past : get_or w (4 * k + 3) 0 ≡ 0 = get_or-eq_default w 0 end in
    rw e (omega (arith, little-four w (4 * k), past, c.byte_at-b0.ensures, c.byte_at-b1.ensures, c.byte_at-b2.ensures))
