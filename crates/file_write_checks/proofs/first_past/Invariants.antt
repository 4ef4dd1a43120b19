-- `file_write_checks::first_past` meets its contract. The loop's invariant: none of the rows before row i is in use and past the last. Assumes nothing.
use Prim.Native.Nat.{◌≤◌}
use Rattle.table_checks.proofs.Laws.{Passed}
use Rattle.file_write_checks.specs.Checks.{past_row}
use Rattle.file_write_checks.proofs.first_past.Given as goal

abbrev pub invariant-loop-i : goal.invariant-loop-i
invariant-loop-i l = (1 ≤ l.i) × (l.i ≤ 1025) × Passed (past_row l.words l.m) l.i
