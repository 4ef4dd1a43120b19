-- `change::keep_rows` meets its contract. The loop's invariant: of the bytes before b those that belong stand at the top, and the bytes from b on are as they were.
-- Assumes nothing.
use lib.ListN.{length, take}
use lib.Seq.{take_all}
use mathlib.Core.Path.{◌≡◌, ap, ◌∙◌}
use native.Mathlib.Nat.{div-le_self}
use native.Mathlib.Omega.{arith}
use Rattle.slice.specs.Slices.{component}
use Rattle.change_spec.specs.Packing.{of_rows, kept_from, kept_rows}
use Rattle.slice_words.proofs.Counts.{bool_small}
use Rattle.change.proofs.Loops.{keeping_none, keeping-more}
use Rattle.change.proofs.keep_rows.Goals as goal

pub loop-b-init : goal.loop-b-init
loop-b-init c = keeping_none _ _

pub overflow_add-b : goal.overflow_add-b
overflow_add-b c = omega (arith, div-le_self c.loop-b.b c.args.width)

pub overflow_add-kept : goal.overflow_add-kept
overflow_add-kept c = omega (arith, bool_small c.get.result)

pub loop-b-preserved : goal.loop-b-preserved
loop-b-preserved c = keeping-more _ _ _ _ _ c.loop-b.invariant (omega arith) c.get.result c.get.ensures

pub shape_of-column : goal.shape_of-column
shape_of-column c = c.loop-b.invariant.same

pub returns : goal.returns
unfolding kept_rows
returns c =
    let k = c.loop-b.invariant in
    let l = c.args.column.now in
    let whole : take c.loop-b.b l ≡ l = take_all c.loop-b.b l (omega arith) in
    let p = of_rows (component c.args.x) c.args.width in
    (k.many ∙ ap (λ m. length (kept_from p 0 m)) whole, k.top ∙ ap (kept_from p 0) whole, k.same)
