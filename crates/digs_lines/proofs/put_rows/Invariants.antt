-- `digs_lines::put_rows` meets its contract. The loop's invariant: the lines of the slice's rows of 1 to i were put. Assumes nothing.
use Prim.Native.Nat.{◌≤◌}
use Rattle.decimal.specs.Puts.{Puts}
use Rattle.digs_spec.specs.DigList.{row_line, row_lines}
use Rattle.slice.specs.Slices.{component}
use Rattle.digs_lines.proofs.put_rows.Given as goal

abbrev pub invariant-loop-i : goal.invariant-loop-i
invariant-loop-i l = (l.i ≤ l.m) × Puts l.initial.out 0 (row_lines (row_line l.left l.right l.weight) l.i (component l.rows)) l.out l.next
