-- `search_great::grow_rows` meets its contract. The loop's invariant: the first k words have also the rows that are kept, and the others are as they were.
-- Assumes nothing.
use native.Mathlib.Omega.{arith}
use Rattle.search_great.proofs.Words.{widened_none, widened_more, widened-all}
use Rattle.search_great.proofs.grow_rows.Goals as goal

pub loop-k-init : goal.loop-k-init
loop-k-init c = widened_none _ _ _ _ _ c.requires.0

pub loop-k-preserved : goal.loop-k-preserved
loop-k-preserved c =
    rw c.mask_of-mask.ensures (widened_more _ _ _ _ _ _ _ (omega arith) c.loop-k.invariant)

pub returns : goal.returns
returns c = widened-all _ _ _ _ c.requires.2 _ _ c.requires.4 _ _ (omega arith) c.loop-k.invariant
