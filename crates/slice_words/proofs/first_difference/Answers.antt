-- `slice_words::first_difference` meets its contract. The loop's invariant: the slices have the same components in the words below `k`. Assumes nothing.
use mathlib.Core.Path.{sym}
use native.Mathlib.Omega.{arith}
use Rattle.rowset.proofs.Laws.{uppermost-zero}
use Rattle.slice.specs.Slices.{size}
use Rattle.slice_words.proofs.Laws.{clear-more, found, differ-at}
use Rattle.slice_words.proofs.first_difference.Goals as goal

pub loop-k-init : goal.loop-k-init
loop-k-init c = (omega arith, λ i l g. absurd (omega arith))

pub returns-then-w-ne0 : goal.returns-then-w-ne0
returns-then-w-ne0 c =
    let (small, set, lower) = c.lowest.ensures in
    let l = c.loop-k in
    found _ _ _ (omega arith) (differ-at _ _ _ (omega arith)) l.invariant.1 _ small set lower

pub loop-k-preserved : goal.loop-k-preserved
loop-k-preserved c =
    (omega arith, clear-more _ _ _ (omega arith) (differ-at _ _ _ (omega arith)) c.loop-k.invariant.1 c.if-w-ne0.false)

pub returns : goal.returns
returns c = sym (uppermost-zero size _ (λ i l g. c.loop-k.invariant.1 i l (omega arith)))
