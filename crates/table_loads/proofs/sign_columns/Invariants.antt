-- `table_loads::sign_columns` meets its contract. The loop's invariant: columns 2 to j equal column 1.
-- Assumes nothing.
use Rattle.table_loads.proofs.Signs.{Skipped}
use Rattle.table_loads.proofs.sign_columns.Given as goal

abbrev pub invariant-loop-j : goal.invariant-loop-j
invariant-loop-j l = Skipped l.columns l.j
