-- `detour::write_dearest` meets its contract. The loop's invariant: the numbers before place j are written. Assumes nothing.
use Prim.Native.Nat.{ℕ, ◌+◌}
use borrow.Author.Rules.{rules}
use mathlib.Core.Bool.{Bool}
use mathlib.Core.Path.{refl, ap}
use native.Mathlib.Omega.{arith}
use Rattle.slice.proofs.Stores.{filled_none, filled_more}
use Rattle.slice_words.proofs.Laws.{component-words}
use Rattle.detour.proofs.Columns.{filled-numbers}
use Rattle.detour.proofs.write_dearest.Goals as goal

pub loop-j-init : goal.loop-j-init
loop-j-init c = filled_none refl

pub overflow_cast-rows : goal.overflow_cast-rows
overflow_cast-rows c = search (rules, c.dearest_at.ensures.row)

pub loop-j-preserved : goal.loop-j-preserved
loop-j-preserved c =
    let l = c.loop-j in
    filled_more l.invariant (omega arith) (c.dearest_at.ensures.by_index _ (ap (λ (p : ℕ → Bool). p (l.j + 1)) (component-words _)))

pub shape_of-rows : goal.shape_of-rows
shape_of-rows c = c.loop-j.invariant.full

pub returns : goal.returns
returns c = filled-numbers _ c.loop-j.invariant (omega arith)
