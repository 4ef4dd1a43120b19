-- `table_loads::whole` meets its contract. The loop's invariant: the blocks before g are right. Assumes nothing.
use mathlib.Core.Path.{refl}
use native.Mathlib.Omega.{arith}
use Rattle.slice_planes.specs.Steps.Blocks.{block_of}
use Rattle.slice.proofs.Stores.{filled_none, filled_more, filled-all}
use Rattle.table_loads.proofs.Gathering.{in-column}
use Rattle.table_loads.proofs.whole.Goals as goal

pub loop-g-init : goal.loop-g-init
loop-g-init c = filled_none refl

pub block-requires : goal.block-requires
block-requires c =
    let p = c.requires in (
      omega arith,
      omega (arith, p.0.most),
      p.0.four,
      omega (arith, p.0.four),
      λ l h. in-column _ _ _ p.0 _ p.1 _ (omega arith),
    )

pub loop-g-preserved : goal.loop-g-preserved
unfolding block_of
loop-g-preserved c = filled_more c.loop-g.invariant (omega arith) c.block.ensures

pub returns : goal.returns
returns c = filled-all c.loop-g.invariant (omega arith)
