-- `search_columns::keep_rows` meets its contract. The loop's invariant: the first k words have the rows that are kept, and the others are as they were.
-- Assumes nothing.
use Rattle.search_columns.proofs.Words.{Narrowed}
use Rattle.search_columns.proofs.keep_rows.Given as goal

abbrev pub invariant-loop-k : goal.invariant-loop-k
invariant-loop-k l = Narrowed l.b l.initial.z l.columns l.j l.z l.k
