-- `search_great::grow` meets its contract, in each of its two cases.
-- Assumes nothing.
use Rattle.search_great.specs.Steps.Column.{grown}
use Rattle.search_great.proofs.grow.Goals as goal

pub returns-then-b : goal.returns-then-b
unfolding grown
returns-then-b c = rw c.if-b.true

pub returns-else-b : goal.returns-else-b
unfolding grown
returns-else-b c = rw c.if-b.false (cc)
