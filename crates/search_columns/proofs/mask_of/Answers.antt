-- `search_columns::mask_of` meets its contract, in each of its two cases.
-- Assumes nothing.
use Rattle.search_columns.specs.Steps.Rows.{mask}
use Rattle.search_columns.proofs.mask_of.Goals as goal

pub returns-then-b : goal.returns-then-b
unfolding mask
returns-then-b c = rw c.if-b.true

pub returns-else-b : goal.returns-else-b
unfolding mask
returns-else-b c = rw c.if-b.false
