-- `search_extremes::single` meets its contract. The loop's invariant: of the first k words at most one is not 0, and that one is `found`.
-- Assumes nothing.
use native.Mathlib.Omega.{arith}
use borrow.Author.Tests.{eqb-true}
use mathlib.Core.Path.{refl, sym, ◌∙◌}
use Rattle.rowset.proofs.Laws.{clash}
use Rattle.search_extremes.proofs.Words.{word_none, word-zero, word_first, word-all}
use Rattle.search_extremes.proofs.single.Goals as goal
use Rattle.search_extremes.proofs.single.Goals.{then-w-ne0+else-found-ne0, else-w-ne0}

pub loop-k-init : goal.loop-k-init
loop-k-init c = word_none _

pub returns-then-found-ne0 : goal.returns-then-found-ne0
returns-then-found-ne0 c e = clash e refl

pub loop-k-preserved : goal.loop-k-preserved
loop-k-preserved c =
    let l = c.loop-k in
    elim c.if-w-ne0.branch [
      | then-w-ne0+else-found-ne0 t ↦ rw t.found-is (word_first _ _ _ (omega arith) t.if-found-ne0.false l.invariant)
      | else-w-ne0 t ↦ rw t.found-is (word-zero _ _ _ (omega arith) t.if-w-ne0.false l.invariant)
    ]

pub returns : goal.returns
returns c e = word-all _ _ _ _ c.requires.2 (omega arith) (eqb-true _ _ (sym c.is_power_of_two.ensures ∙ e)) c.loop-k.invariant
