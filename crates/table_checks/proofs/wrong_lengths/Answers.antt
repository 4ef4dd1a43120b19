-- `table_checks::wrong_lengths` meets its contract: the first test that holds decides. Assumes nothing.
use borrow.Author.Tests.{eq-eqb, ne_eqb}
use Rattle.table_checks.proofs.wrong_lengths.Goals as goal

pub returns-then-not-whole : goal.returns-then-not-whole
returns-then-not-whole c = rw c.if-not-whole.true

pub returns-then-left-m : goal.returns-then-left-m
returns-then-left-m c = rw (c.if-not-whole.false, ne_eqb _ _ c.if-left-m.true)

pub returns-then-right-m : goal.returns-then-right-m
returns-then-right-m c = rw (c.if-not-whole.false, eq-eqb _ _ c.if-left-m.false, ne_eqb _ _ c.if-right-m.true)

pub returns-then-mark-m : goal.returns-then-mark-m
returns-then-mark-m c =
    rw (c.if-not-whole.false, eq-eqb _ _ c.if-left-m.false, eq-eqb _ _ c.if-right-m.false, ne_eqb _ _ c.if-mark-m.true)

pub returns : goal.returns
returns c =
    rw (c.if-not-whole.false, eq-eqb _ _ c.if-left-m.false, eq-eqb _ _ c.if-right-m.false, eq-eqb _ _ c.if-mark-m.false)
