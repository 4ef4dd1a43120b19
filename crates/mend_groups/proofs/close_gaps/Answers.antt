-- `mend_groups::close_gaps` meets its contract. The loop's invariant: the state is that after i rows, and there are at most m + i records.
-- Assumes nothing.
use Prim.Native.Nat.{◌+◌}
use mathlib.Core.Path.{◌≡◌, refl, sym, ◌∙◌, ap}
use native.Mathlib.Omega.{arith}
use Rattle.slice.specs.Slices.{component}
use Rattle.mend_groups.proofs.Steps.{visits-next, add-count}
use Rattle.mend_groups.specs.Steps.Machine.{State, state_of, add_at, visits}
use Rattle.mend_groups.proofs.close_gaps.Goals as goal

pub loop-i-init : goal.loop-i-init
unfolding visits
loop-i-init c = (omega arith, refl)

pub loop-i-preserved : goal.loop-i-preserved
loop-i-preserved c =
    let l = c.loop-i in
    let a = c.args in
    let step = c.add_at-s.ensures in
    let count = ap (λ (x : State). x.count) step in
    let few = add-count a.left.now a.right.now (l.i + 1) (state_of l.s l.list l.labels) (component a.used) in
    (omega (arith, count, few), step ∙ ap (add_at (component a.used) a.left.now a.right.now (l.i + 1)) l.invariant.1 ∙ sym (visits-next _ _ _))

pub returns : goal.returns
returns c =
    let l = c.loop-i in
    let all : l.i ≡ c.args.m = omega arith in record {
      passed = rw (← all) l.invariant.1;
      few = omega arith;
    }
