-- `mend::swap_rows` meets its contract. The loop's invariant: the state is that after i rows, and there are at most 2 · m + i records.
-- Assumes nothing.
use Prim.Native.Nat.{◌+◌, ◌-◌}
use mathlib.Core.Path.{◌≡◌, refl, sym, ◌∙◌, ap}
use native.Mathlib.Omega.{arith}
use Rattle.path_matrix.specs.Matrix.{matrix_column}
use Rattle.rowset.specs.Columns.{width}
use Rattle.rowset.specs.Integers.{integer_in}
use Rattle.slice.specs.Slices.{component}
use Rattle.mend_groups.proofs.Steps.{visits-next}
use Rattle.mend.proofs.Steps.{swap-count}
use Rattle.mend_groups.specs.Steps.Machine.{State, state_of, visits}
use Rattle.mend.specs.Steps.Machine.{swap_at}
use Rattle.mend.proofs.swap_rows.Goals as goal

pub loop-i-init : goal.loop-i-init
unfolding visits
loop-i-init c = (omega arith, refl)

pub loop-i-preserved : goal.loop-i-preserved
loop-i-preserved c =
    let l = c.loop-i in
    let a = c.args in
    let step = c.swap_at-s.ensures in
    let f = integer_in (matrix_column a.weights.now) a.first (width - a.first) in
    let count = ap (λ (x : State). x.count) step in
    let few = swap-count a.left.now a.right.now (l.i + 1) (state_of l.s l.list l.own) a.n (component a.used) f a.weight.now in
    (omega (arith, count, few), step ∙ ap (swap_at a.n (component a.used) f a.left.now a.right.now a.weight.now (l.i + 1)) l.invariant.1 ∙ sym (visits-next _ _ _))

pub returns : goal.returns
returns c =
    let l = c.loop-i in
    let all : l.i ≡ c.args.m = omega arith in record {
      passed = rw (← all) l.invariant.1;
      few = omega arith;
    }
