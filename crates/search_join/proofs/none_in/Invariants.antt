-- `search_join::none_in` meets its contract. The loop's invariant: `joined` is 0 where the first k words are, and else there is a row. Assumes nothing.
use Rattle.search_join.proofs.Joining.{Joined}
use Rattle.search_join.proofs.none_in.Given as goal

abbrev pub invariant-loop-k : goal.invariant-loop-k
invariant-loop-k g l = Joined l.z l.joined l.k
