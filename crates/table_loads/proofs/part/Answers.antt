-- `table_loads::part` meets its contract. The loop's invariant: the blocks before g are right. Assumes nothing.
use mathlib.Core.Path.{refl, ◌∙◌}
use native.Mathlib.Omega.{arith}
use Rattle.slice.proofs.Stores.{filled_none, filled_more, filled-all}
use Rattle.table_loads.proofs.Gathering.{in-column, block-whole}
use Rattle.table_loads.proofs.part.Goals as goal

pub loop-g-init : goal.loop-g-init
loop-g-init c = (record { most = omega arith; inside = omega arith; ended = λ l. omega arith }, filled_none refl)

pub block-requires : goal.block-requires
block-requires c =
    let p = c.requires in
    let r = c.loop-g.invariant.0 in (
      omega (arith, r.most),
      omega (arith, r.inside, p.0.most),
      p.0.four,
      omega (arith, p.0.four),
      λ l h. in-column _ _ _ p.0 _ p.1 _ (omega (arith, r.inside)),
    )

pub loop-g-preserved : goal.loop-g-preserved
loop-g-preserved c =
    let p = c.requires in
    let i = c.loop-g.invariant in (
      i.0,
      filled_more i.1 (omega arith)
          (c.block.ensures ∙ block-whole _ _ _ p.0 _ p.1 _ _ _ i.0 (omega arith)),
    )

pub returns : goal.returns
returns c = filled-all c.loop-g.invariant.1 (omega arith)
