-- `outlets_swaps::find_again` meets its contract. The loop's invariant: the numbers before place j are written, and the others as they were. Assumes nothing.
use Prim.Native.Nat.{ℕ, ◌+◌, ◌-◌}
use borrow.Author.Tests.{eq-eqb, ne_eqb}
use lib.Dec.{eqb}
use lib.ListN.{get_or}
use mathlib.Core.Bool.{Bool}
use mathlib.Core.List.{List}
use mathlib.Core.Path.{◌≡◌, sym, ◌∙◌, ap}
use native.Mathlib.Omega.{arith}
use Rattle.outlets_swaps.specs.Steps.Exchanges.{kept_as}
use Rattle.outlets_swaps.proofs.Fills.{filling-none, filling-more, filling-all}
use Rattle.outlets_swaps.proofs.find_again.Goals as goal
use Rattle.outlets_swaps.proofs.find_again.Goals.{then-out-j, else-out-j}

-- the test is that of the number as it was before the loop
same_test : (old l : List ℕ) (e j : ℕ) (b : Bool) → get_or l j 0 ≡ get_or old j 0 → eqb (get_or l j 0) e ≡ b → b ≡ kept_as old e (j + 1)
same_test old l e j b q t =
    let s : j + 1 - 1 ≡ j = omega arith in
    sym t ∙ ap (λ (y : ℕ). eqb y e) q ∙ ap (λ (k : ℕ). eqb (get_or old k 0) e) (sym s)

pub loop-j-init : goal.loop-j-init
loop-j-init c = (filling-none _ _ _, filling-none _ _ _, c.requires)

pub find-requires : goal.find-requires
find-requires c =
    let l = c.loop-j in (omega arith, omega (arith, c.loop-j-test.true, l.invariant.0.full, l.invariant.1.full, l.invariant.2))

pub loop-j-preserved : goal.loop-j-preserved
loop-j-preserved c =
    let l = c.loop-j in
    let a = c.args in
    let low = c.loop-j-test.true in
    let old = l.invariant.0.rest l.j (omega arith) in
    elim c.if-out-j.branch [
      | then-out-j w ↦
          let test = same_test a.out.now l.out a.e l.j _ old (eq-eqb _ _ w.if-out-j.true) in (
            filling-more _ _ _ _ _ _ _ l.invariant.0 (omega (arith, low, l.invariant.0.full)) test (w.out-is ∙ w.find.ensures.out),
            filling-more _ _ _ _ _ _ _ l.invariant.1 (omega (arith, low, l.invariant.0.full, l.invariant.2)) test (w.cost-is ∙ w.find.ensures.cost),
            l.invariant.2,
          )
      | else-out-j w ↦
          let test = same_test a.out.now l.out a.e l.j _ old (ne_eqb _ _ w.if-out-j.false) in (
            filling-more _ _ _ _ _ _ _ l.invariant.0 (omega (arith, low, l.invariant.0.full)) test w.out-is,
            filling-more _ _ _ _ _ _ _ l.invariant.1 (omega (arith, low, l.invariant.0.full, l.invariant.2)) test w.cost-is,
            l.invariant.2,
          )
    ]

pub shape_of-out : goal.shape_of-out
shape_of-out c = c.loop-j.invariant.0.full

pub shape_of-cost : goal.shape_of-cost
shape_of-cost c = c.loop-j.invariant.1.full

pub returns : goal.returns
returns c =
    let l = c.loop-j in record {
      out = filling-all _ _ _ _ _ (omega (arith, c.loop-j-test.false, l.invariant.0.full)) l.invariant.0;
      cost = filling-all _ _ _ _ _ (omega (arith, c.loop-j-test.false, l.invariant.0.full, l.invariant.2)) l.invariant.1;
    }
