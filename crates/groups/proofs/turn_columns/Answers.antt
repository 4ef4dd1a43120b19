-- `groups::turn_columns` meets its contract. The loop's invariant: the first v columns are turned over.
-- Assumes nothing.
use Prim.Native.Nat.{ℕ, ◌+◌}
use mathlib.Core.List.{List}
use mathlib.Core.Path.{◌≡◌, refl, sym, ◌∙◌, ap}
use native.Mathlib.Omega.{arith}
use Rattle.groups.proofs.Steps.{turned-next}
use Rattle.groups.specs.Steps.Machine.{column_turned, columns_turned}
use Rattle.slice.specs.Slices.{component}
use Rattle.groups.proofs.turn_columns.Goals as goal

pub loop-v-init : goal.loop-v-init
unfolding columns_turned
loop-v-init c = refl

pub loop-v-preserved : goal.loop-v-preserved
loop-v-preserved c =
    let l = c.loop-v in
    let a = c.args in
    c.turn_column.ensures
    ∙ ap (λ (m : List ℕ). column_turned a.labels.now m (l.v + 1) a.x (component a.ring)) l.invariant
    ∙ sym (turned-next a.labels.now a.own.now l.v a.x (component a.ring))

pub returns : goal.returns
returns c =
    let l = c.loop-v in
    let a = c.args in
    let all : l.v ≡ a.n = omega arith in
    l.invariant ∙ ap (λ (k : ℕ). columns_turned a.labels.now a.own.now k a.x (component a.ring)) all
