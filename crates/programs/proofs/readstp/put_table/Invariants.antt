-- `programs::readstp::put_table` meets its contract. The loop's invariant: the lines of rows 1 to i were put after that of the sizes. Assumes nothing.
use Prim.Native.Nat.{◌≤◌}
use Rattle.programs.proofs.Laws.{Lined}
use Rattle.programs.specs.Readstp.{ends_line}
use Rattle.programs.proofs.readstp.put_table.Given as goal

abbrev pub invariant-loop-i : goal.invariant-loop-i
invariant-loop-i l = (l.i ≤ l.m) × Lined (ends_line l.left l.right l.weight) l.initial.out l.initial.next l.i l.out l.next
