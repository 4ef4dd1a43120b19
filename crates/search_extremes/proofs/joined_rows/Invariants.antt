-- `search_extremes::joined_rows` meets its contract. The loop's invariant: `joined` is 0 where the first k words have no row that is kept, and else there is such a row.
-- Assumes nothing.
use Rattle.search_extremes.proofs.Words.{Joined}
use Rattle.search_extremes.proofs.joined_rows.Given as goal

abbrev pub invariant-loop-k : goal.invariant-loop-k
invariant-loop-k l = Joined l.b l.z l.columns l.j l.joined l.k
