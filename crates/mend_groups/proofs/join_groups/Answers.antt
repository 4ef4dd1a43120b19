-- `mend_groups::join_groups` meets its contract: one pass after the other.
-- Assumes nothing.
use Prim.Native.Nat.{ℕ}
use mathlib.Core.List.{List}
use mathlib.Core.Path.{◌∙◌, ap}
use native.Mathlib.Omega.{arith}
use Rattle.slice.specs.Slices.{component}
use Rattle.mend_groups.specs.Steps.Machine.{State, add_at, drop_at, visits, two_passes}
use Rattle.mend_groups.proofs.join_groups.Goals as goal

pub drop_rings-ringless-requires : goal.drop_rings-ringless-requires
drop_rings-ringless-requires c = (omega arith, omega arith)

pub close_gaps-requires : goal.close_gaps-requires
close_gaps-requires c = (omega arith, omega arith, omega arith)

pub returns : goal.returns
unfolding two_passes
returns c =
    let a = c.args in
    let first = c.drop_rings-ringless.ensures.passed ∙ ap (λ (l : List ℕ). visits (drop_at a.left.now a.right.now) a.m (record { marks = component a.marked; count = 0; list = a.list.now; own = l })) (c.own_labels.ensures.stored (omega arith)) in
    let all = c.close_gaps.ensures.passed ∙ ap (visits (add_at (component a.used) a.left.now a.right.now) a.m) first in
    record {
      marks = ap (λ (s : State). s.marks) all;
      count = ap (λ (s : State). s.count) all;
      list = ap (λ (s : State). s.list) all;
      few = c.close_gaps.ensures.few;
    }
