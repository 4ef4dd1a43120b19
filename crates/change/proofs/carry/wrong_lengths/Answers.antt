-- `change::carry::wrong_lengths` meets its contract: the value of `||` by its first test. Assumes nothing.
use borrow.Author.Tests.{eq-eqb, ne_eqb}
use Rattle.change.proofs.carry.wrong_lengths.Goals as goal

pub returns-then-numbers-ne-SIZE : goal.returns-then-numbers-ne-SIZE
returns-then-numbers-ne-SIZE c = rw (ne_eqb _ _ c.if-numbers-ne-SIZE.true)

pub returns-else-numbers-ne-SIZE : goal.returns-else-numbers-ne-SIZE
returns-else-numbers-ne-SIZE c = rw (eq-eqb _ _ c.if-numbers-ne-SIZE.false)
