-- `file_door::line_after` meets its contract: CR, another byte than LF, LF after CR, or LF. Assumes nothing.
use borrow.Author.Tests.{eq-eqb, ne_eqb}
use native.Mathlib.Numerals.{add-one}
use Rattle.file_spec.specs.Places.{line_after}
use Rattle.file_door.proofs.line_after.Goals as goal

pub returns-then-b-eq13 : goal.returns-then-b-eq13
unfolding line_after
returns-then-b-eq13 c = rw (eq-eqb _ _ c.if-b-eq13.true) (add-one _)

pub returns-then-b-ne10 : goal.returns-then-b-ne10
unfolding line_after
returns-then-b-ne10 c = rw (ne_eqb _ _ c.if-b-eq13.false, ne_eqb _ _ c.if-b-ne10.true)

pub returns-then-after_cr : goal.returns-then-after_cr
unfolding line_after
returns-then-after_cr c = rw (ne_eqb _ _ c.if-b-eq13.false, eq-eqb _ _ c.if-b-ne10.false, c.if-after_cr.true)

pub returns-else-after_cr : goal.returns-else-after_cr
unfolding line_after
returns-else-after_cr c = rw (ne_eqb _ _ c.if-b-eq13.false, eq-eqb _ _ c.if-b-ne10.false, c.if-after_cr.false) (add-one _)
