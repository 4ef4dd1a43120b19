-- `search_join::put_words` meets its contract. The loop's invariant: the words below i are joined, and the others are as they were. Assumes nothing.
use lib.Bits.{bit_or}
use native.Mathlib.Omega.{arith}
use Rattle.slice.proofs.Merge.{merged-none, merged-more}
use Rattle.slice_words.proofs.Joining.{joined}
use Rattle.search_join.proofs.put_words.Goals as goal

pub loop-i-init : goal.loop-i-init
loop-i-init g c = merged-none bit_or _ _ (omega arith)

pub loop-i-preserved : goal.loop-i-preserved
loop-i-preserved g c = merged-more bit_or _ _ _ _ (omega arith) c.loop-i.invariant

pub returns : goal.returns
returns g c = record {
  rows = joined _ _ _ _ _ (omega arith) c.requires.1 c.loop-i.invariant;
  size = c.loop-i.invariant.full;
}
