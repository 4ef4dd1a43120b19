-- `outlets_swaps::find_all` meets its contract. The loop's invariant: the numbers before place j are written, and the others as they were. Assumes nothing.
use mathlib.Core.Path.{sym, ◌∙◌}
use native.Mathlib.Omega.{arith}
use Rattle.outlets_swaps.proofs.Fills.{filling-none, filling-more, filling-all}
use Rattle.outlets_swaps.proofs.find_all.Goals as goal
use Rattle.outlets_swaps.proofs.find_all.Goals.{then-get, else-get}

pub loop-j-init : goal.loop-j-init
loop-j-init c = (filling-none _ _ _, filling-none _ _ _, c.requires)

pub find-requires : goal.find-requires
find-requires c =
    let l = c.loop-j in (omega arith, omega (arith, c.loop-j-test.true, l.invariant.0.full, l.invariant.1.full, l.invariant.2))

pub loop-j-preserved : goal.loop-j-preserved
loop-j-preserved c =
    let l = c.loop-j in
    let low = c.loop-j-test.true in
    let is = c.get.ensures in
    elim c.if-get.branch [
      | then-get w ↦
          let test = sym w.if-get.true ∙ is in (
            filling-more _ _ _ _ _ _ _ l.invariant.0 (omega (arith, low, l.invariant.0.full)) test (w.out-is ∙ w.find.ensures.out),
            filling-more _ _ _ _ _ _ _ l.invariant.1 (omega (arith, low, l.invariant.0.full, l.invariant.2)) test (w.cost-is ∙ w.find.ensures.cost),
            l.invariant.2,
          )
      | else-get w ↦
          let test = sym w.if-get.false ∙ is in (
            filling-more _ _ _ _ _ _ _ l.invariant.0 (omega (arith, low, l.invariant.0.full)) test w.out-is,
            filling-more _ _ _ _ _ _ _ l.invariant.1 (omega (arith, low, l.invariant.0.full, l.invariant.2)) test w.cost-is,
            l.invariant.2,
          )
    ]

pub shape_of-out : goal.shape_of-out
shape_of-out c = c.loop-j.invariant.0.full

pub shape_of-cost : goal.shape_of-cost
shape_of-cost c = c.loop-j.invariant.1.full

pub returns : goal.returns
returns c =
    let l = c.loop-j in record {
      out = filling-all _ _ _ _ _ (omega (arith, c.loop-j-test.false, l.invariant.0.full)) l.invariant.0;
      cost = filling-all _ _ _ _ _ (omega (arith, c.loop-j-test.false, l.invariant.0.full, l.invariant.2)) l.invariant.1;
    }
