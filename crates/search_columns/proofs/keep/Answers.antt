-- `search_columns::keep` meets its contract, in each of its two cases.
-- Assumes nothing.
use Rattle.search_columns.specs.Steps.Column.{kept}
use Rattle.search_columns.proofs.keep.Goals as goal

pub returns-then-b : goal.returns-then-b
unfolding kept
returns-then-b c = rw c.if-b.true c.and.ensures

pub returns-else-b : goal.returns-else-b
unfolding kept
returns-else-b c = rw c.if-b.false c.without.ensures
