-- `slice::fnd` meets its contract. The loop's invariant: no component in the words below `k` is 1. Assumes nothing.
use Prim.Native.Nat.{◌≤◌}
use Rattle.slice.proofs.Laws.{Clear}
use Rattle.slice.proofs.fnd.Given as goal

abbrev pub invariant-loop-k : goal.invariant-loop-k
invariant-loop-k l = (l.k ≤ 16) × Clear l.fn.x l.k
