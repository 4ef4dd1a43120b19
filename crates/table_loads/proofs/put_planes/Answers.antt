-- `table_loads::put_planes` meets its contract. The loop's invariant: the planes before k are stored. Assumes nothing.
use Prim.Native.Nat.{◌*◌, ◌-◌, ◌%◌}
use mathlib.Core.Path.{◌≡◌, refl, ap, ap₂, ◌∙◌}
use lib.ListN.{set}
use native.Mathlib.Numerals.{add-one}
use native.Mathlib.Omega.{arith}
use Rattle.slice_planes.specs.Steps.Blocks.{word_of}
use Rattle.table_loads.specs.Steps.Stores.{with_planes}
use Rattle.table_loads.proofs.put_planes.Goals as goal

pub loop-k-init : goal.loop-k-init
unfolding with_planes
loop-k-init c = (omega arith, refl)

pub loop-k-preserved : goal.loop-k-preserved
unfolding with_planes
loop-k-preserved c =
    let at = c.args.at in
    let k = c.loop-k.k in
    let small : k % 8 ≡ k = omega arith in
    let right : c.word.result ≡ word_of c.args.blocks.now k 0 = c.word.ensures ∙ ap (λ n. word_of c.args.blocks.now n 0) small in
    (omega arith, rw add-one (ap₂ (λ l w. set l (at - 16 * k) w) c.loop-k.invariant.1 right))

pub returns : goal.returns
returns c = let z : c.loop-k.k ≡ 8 = omega arith in rw z at c.loop-k.invariant.1
