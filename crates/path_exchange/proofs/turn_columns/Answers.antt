-- `path_exchange::turn_columns` meets its contract. The loop's invariant: the first j columns are turned over.
-- Assumes nothing.
use Prim.Native.Nat.{ℕ, ◌+◌}
use Rattle.path_exchange.specs.Turned.{column_turned, columns_turned}
use Rattle.slice.specs.Slices.{component}
use mathlib.Core.List.{List}
use mathlib.Core.Path.{◌≡◌, refl, sym, ◌∙◌, ap}
use native.Mathlib.Omega.{arith}
use Rattle.path_exchange.proofs.Turned.{turned-next}
use Rattle.path_exchange.proofs.turn_columns.Goals as goal

pub loop-j-init : goal.loop-j-init
unfolding columns_turned
loop-j-init c = (omega arith, refl, refl)

pub loop-j-preserved : goal.loop-j-preserved
loop-j-preserved c =
    let l = c.loop-j in
    let a = c.args in
    (omega arith, c.turn_column.ensures ∙ ap (λ (m : List ℕ). column_turned m (l.j + 1) a.e (component a.ring)) l.invariant.1 ∙ sym (turned-next a.matrix.now l.j a.e (component a.ring)), omega arith)

pub returns : goal.returns
returns c =
    let l = c.loop-j in
    let a = c.args in
    let all : l.j ≡ a.n = omega arith in
    l.invariant.1 ∙ ap (λ (k : ℕ). columns_turned a.matrix.now k a.e (component a.ring)) all
