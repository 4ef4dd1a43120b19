-- `table_loads::put_bytes` meets its contract. The loop's invariant: the bytes before `offset` are stored. Assumes nothing.
use Prim.Native.Nat.{◌+◌, ◌*◌, ◌-◌}
use mathlib.Core.Path.{◌≡◌, refl, ap, ◌∙◌}
use native.Mathlib.Numerals.{add-one}
use native.Mathlib.Omega.{arith}
use Rattle.slice_planes.specs.Steps.Blocks.{word_of}
use Rattle.table_loads.specs.Steps.Stores.{with_planes, with_bytes}
use Rattle.table_loads.proofs.Gathering.{word_rows}
use Rattle.table_loads.proofs.Placing.{planes-ext}
use Rattle.table_loads.proofs.put_bytes.Goals as goal

pub loop-offset-init : goal.loop-offset-init
unfolding with_bytes
loop-offset-init c = (omega arith, refl)

pub loop-offset-preserved : goal.loop-offset-preserved
unfolding with_bytes
loop-offset-preserved c =
    let l = c.loop-offset in
    let a = c.args in
    let known = c.shared_slice_known-1.given in (
      omega (arith, c.loop-offset-test.true),
      rw add-one
          (c.put_planes.ensures
          ∙ ap (λ m. with_planes m (16 * (31 - 8 * l.offset) + a.q) (λ k. word_of c.gather-blocks.result k 0) 8) l.invariant.1
          ∙ planes-ext _ _ _ _ 8 (λ k h. word_rows _ _ _ (λ i. (known i).fits) k h _ _ c.gather-blocks.ensures)),
    )

pub returns : goal.returns
returns c = let e : c.loop-offset.offset ≡ c.args.stride = omega arith in rw e at c.loop-offset.invariant.1
