-- `slice_words::first_difference` meets its contract. The loop's invariant: the slices have the same components in the words below `k`. Assumes nothing.
use Prim.Native.Nat.{◌≤◌}
use Rattle.rowset.specs.Sets.{one_of}
use Rattle.rowset.specs.Words.{in_words}
use Rattle.slice_words.proofs.Laws.{Clear}
use Rattle.slice_words.proofs.first_difference.Given as goal

abbrev pub invariant-loop-k : goal.invariant-loop-k
invariant-loop-k l = (l.k ≤ 16) × Clear (one_of (in_words l.x) (in_words l.y)) l.k
