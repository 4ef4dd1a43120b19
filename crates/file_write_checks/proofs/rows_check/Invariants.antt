-- `file_write_checks::rows_check` meets its contract. The loop's invariant: none of the rows before row i has a fault. Assumes nothing.
use Prim.Native.Nat.{◌+◌, ◌≤◌}
use lib.ListN.{length}
use Rattle.file_writer.specs.Columns.{sheet_of}
use Rattle.file_write_checks.specs.Checks.{row_fault}
use Rattle.file_write_checks.proofs.Laws.{Clear}
use Rattle.file_write_checks.proofs.rows_check.Given as goal

abbrev pub invariant-loop-i : goal.invariant-loop-i
invariant-loop-i l = (1 ≤ l.i) × (l.i ≤ length l.left + 1) × Clear (row_fault (sheet_of l.text l.starts l.ends l.words l.left l.right l.weight l.mark)) l.i
