-- `change::carry::bring` meets its contract. The loop's invariant: the bytes of the rows from i on are at their numbers.
-- Assumes nothing.
use Prim.Native.Nat.{suc, ◌-◌}
use lib.ListN.{length, drop_of_length-le}
use mathlib.Core.Path.{◌≡◌, sym, ap, ◌∙◌}
use native.Mathlib.Omega.{arith}
use Rattle.change_spec.proofs.Carrying.{brought-length, brought-nothing, brought-more}
use Rattle.change_spec.specs.Carrying.{brought_to}
use Rattle.change.proofs.carry.bring.Goals as goal

pub loop-i-init : goal.loop-i-init
loop-i-init c =
    let a = c.args in
    (omega arith, sym (rw (drop_of_length-le a.numbers.now {i = 1024} (omega (arith, c.requires.0)), drop_of_length-le a.claim.now {i = 1024} (omega (arith, c.requires.1))) (brought-nothing a.column.now)))

pub bounds-numbers-i : goal.bounds-numbers-i
bounds-numbers-i c = omega (arith, c.requires.0, c.loop-i.invariant.0)

pub bounds-claim-i : goal.bounds-claim-i
bounds-claim-i c = omega (arith, c.requires.1, c.loop-i.invariant.0)

pub loop-i-preserved : goal.loop-i-preserved
loop-i-preserved c =
    let l = c.loop-i in
    let a = c.args in
    let up : suc (l.i - 1) ≡ l.i = omega arith in (
      omega (arith, l.invariant.0),
      c.put_byte.ensures
          ∙ ap (brought_to _ _) (l.invariant.1 ∙ sym (rw up))
          ∙ brought-more a.numbers.now a.claim.now a.column.now (l.i - 1) (omega (arith, l.invariant.0, c.requires.0)) (omega (arith, l.invariant.0, c.requires.1)),
    )

pub shape_of-column : goal.shape_of-column
shape_of-column c = ap length c.loop-i.invariant.1 ∙ brought-length _ _ _

pub returns : goal.returns
returns c =
    let l = c.loop-i in
    let none : l.i ≡ 0 = omega arith in
    l.invariant.1 ∙ rw none
