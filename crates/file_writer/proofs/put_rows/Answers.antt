-- `file_writer::put_rows` meets its contract. The loop's invariant: the lines of the first k rows were put. Assumes nothing.
use native.Mathlib.Omega.{arith}
use Prim.Native.Nat.{◌-◌}
use Rattle.decimal.proofs.Laws.{puts-length}
use Rattle.file_writer.proofs.Writes.{none_rows, puts-more, puts-done}
use Rattle.file_writer.proofs.put_rows.Goals as goal

pub loop-k-init : goal.loop-k-init
loop-k-init c = none_rows (omega arith) _

pub put_row-next-requires : goal.put_row-next-requires
put_row-next-requires c =
    let i = c.loop-k.invariant in
    omega (arith, puts-length i, i.place)

pub loop-k-preserved : goal.loop-k-preserved
loop-k-preserved c = puts-more _ _ c.loop-k.invariant c.put_row-next.ensures

pub shape_of-out : goal.shape_of-out
shape_of-out c = puts-length c.loop-k.invariant

pub returns : goal.returns
returns c = puts-done _ _ _ c.loop-k.invariant (omega arith) (omega arith)
