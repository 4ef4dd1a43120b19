-- `table_checks::row_byte` meets its contract. Assumes nothing.
use Prim.Native.Nat.{suc, ◌-◌}
use mathlib.Core.Path.{◌≡◌}
use native.Mathlib.Omega.{arith}
use Rattle.rowset.specs.Bytes.{in_row}
use Rattle.star_spec.proofs.Claims.{in_row-byte}
use Rattle.table_checks.proofs.row_byte.Goals as goal

pub returns-then-i-lt1 : goal.returns-then-i-lt1
unfolding in_row
returns-then-i-lt1 c = let e : c.args.i ≡ 0 = omega arith in rw e

pub returns : goal.returns
returns c =
    let i = c.args.i in
    let e : i ≡ suc (i - 1) = omega arith in
    rw (e, in_row-byte) c.byte_at.ensures
