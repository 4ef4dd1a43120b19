-- `search_extremes::single` meets its contract. The loop's invariant: of the first k words at most one is not 0, and that one is `found`.
-- Assumes nothing.
use Rattle.search_extremes.proofs.Words.{OneWord}
use Rattle.search_extremes.proofs.single.Given as goal

abbrev pub invariant-loop-k : goal.invariant-loop-k
invariant-loop-k l = OneWord l.z l.found l.k
