-- `claim::mark_rows` meets its contract. The loop's invariant: the words before k are those of the marked rows, and the others are 0.
-- Assumes nothing.
use Rattle.std.proofs.Common.{sym, ◌∙◌, arith}
use Rattle.claim.proofs.Laws.{claim_rows-long, marks-none, marks-more, marks-all}
use Rattle.claim.proofs.mark_rows.Goals as goal

pub returns-then-mark-gt-SIZE : goal.returns-then-mark-gt-SIZE
returns-then-mark-gt-SIZE c = c.empty.ensures ∙ sym (claim_rows-long _ (omega arith))

pub loop-k-init : goal.loop-k-init
loop-k-init c = marks-none _

pub overflow_mul-k : goal.overflow_mul-k
overflow_mul-k c = omega (arith, c.loop-k.invariant.near)

pub loop-k-preserved : goal.loop-k-preserved
loop-k-preserved c = marks-more _ _ _ _ c.loop-k.invariant (omega arith) (omega (arith, c.loop-k-test.true, c.div_ceil-k-end.ensures)) c.mark_word.ensures

pub returns : goal.returns
returns c = marks-all _ c.loop-k.r _ (omega arith) c.loop-k.invariant (omega arith)
