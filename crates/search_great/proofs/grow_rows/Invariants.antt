-- `search_great::grow_rows` meets its contract. The loop's invariant: the first k words have also the rows that are kept, and the others are as they were.
-- Assumes nothing.
use Rattle.search_great.proofs.Words.{Widened}
use Rattle.search_great.proofs.grow_rows.Given as goal

abbrev pub invariant-loop-k : goal.invariant-loop-k
invariant-loop-k l = Widened l.b l.z l.columns l.j l.initial.g l.g l.k
