-- `search_extremes::wanted` meets its contract, in each of its two cases.
-- Assumes nothing.
use borrow.Author.Tests.{eq-eqb, ne_eqb}
use Rattle.search_extremes.proofs.wanted.Goals as goal

pub returns-then-j-first : goal.returns-then-j-first
returns-then-j-first c = rw (eq-eqb _ _ c.if-j-first.true)

pub returns-else-j-first : goal.returns-else-j-first
returns-else-j-first c = rw (ne_eqb _ _ c.if-j-first.false)
