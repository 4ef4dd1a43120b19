-- `search::sign_columns` meets its contract. The loop's invariant: columns 2 to j equal column 1.
-- Assumes nothing.
use Rattle.search.proofs.Signs.{Skipped}
use Rattle.search.proofs.sign_columns.Given as goal

abbrev pub invariant-loop-j : goal.invariant-loop-j
invariant-loop-j l = Skipped l.t l.j
