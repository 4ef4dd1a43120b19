-- `search_join::put_words` meets its contract. The loop's invariant: the words below i are joined, and the others are as they were. Assumes nothing.
use lib.Bits.{bit_or}
use Rattle.slice.proofs.Merge.{Merged}
use Rattle.search_join.proofs.put_words.Given as goal

abbrev pub invariant-loop-i : goal.invariant-loop-i
invariant-loop-i g l = Merged bit_or (record { words = l.initial.x }) (record { words = l.z }) (record { words = l.x }) l.i
