-- `search_columns::columns_of` meets its contract. The loop's invariant: the words have the first j columns. Assumes nothing.
use Rattle.search_columns.proofs.Stores.{Stored}
use Rattle.search_columns.proofs.columns_of.Given as goal

abbrev pub invariant-loop-j : goal.invariant-loop-j
invariant-loop-j l = Stored l.t l.columns l.j
