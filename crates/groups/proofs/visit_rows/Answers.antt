-- `groups::visit_rows` meets its contract. The loop's invariant: the state is that after i rows.
-- Assumes nothing.
use Prim.Native.Nat.{ℕ, ◌+◌}
use mathlib.Core.Bool.{Bool}
use mathlib.Core.Path.{◌≡◌, sym, ◌∙◌, ap}
use native.Mathlib.Omega.{arith}
use Rattle.groups.proofs.Steps.{visits-next}
use Rattle.groups.specs.Steps.Machine.{row_at, visits}
use Rattle.slice.specs.Slices.{component}
use Rattle.groups.proofs.visit_rows.Goals as goal

pub loop-i-init : goal.loop-i-init
unfolding visits
loop-i-init c =
    let a = c.args in
    ap (λ (p : ℕ → Bool). record { rings = p; labels = a.labels.now; own = a.own.now }) c.empty-rings.ensures

pub loop-i-preserved : goal.loop-i-preserved
loop-i-preserved c =
    let l = c.loop-i in
    let a = c.args in
    c.visit_marked-rings.ensures ∙ ap (row_at (component a.marked) a.n a.left.now a.right.now (l.i + 1)) l.invariant ∙ sym (visits-next _ _ _)

pub returns : goal.returns
returns c =
    let l = c.loop-i in
    let all : l.i ≡ c.args.m = omega arith in
    rw (← all) l.invariant
