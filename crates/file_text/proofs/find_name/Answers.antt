-- `file_text::find_name` meets its contract. The loop's invariant: the names before k are others, so that the position is k and what is found from k on. Assumes nothing.
use Rattle.file_text.specs.Steps.Spans.{part}
use Rattle.file_text.proofs.Found.{found-start, found_here, found-later, found_none}
use Rattle.file_text.proofs.find_name.Goals as goal

pub loop-k-init : goal.loop-k-init
loop-k-init c = found-start _ _ _ _ _

pub returns-then-equal-clause-value : goal.returns-then-equal-clause-value
unfolding part
returns-then-equal-clause-value c = found_here _ _ _ _ _ c.loop-k.k c.loop-k.invariant c.loop-k-test.true _ c.equal.ensures c.if-equal.true

pub loop-k-preserved : goal.loop-k-preserved
unfolding part
loop-k-preserved c = found-later _ _ _ _ _ c.loop-k.k c.loop-k.invariant c.loop-k-test.true _ c.equal.ensures c.if-equal.false

pub returns-clause-value : goal.returns-clause-value
returns-clause-value c = found_none _ _ _ _ _ c.loop-k.k c.loop-k.invariant c.loop-k.auto.k-end c.loop-k-test.false
