-- `file::junctions_of` meets its contract: what a line says, the number of names, or the largest end. Assumes nothing.
use borrow.Author.Tests.{eq-eqb, ne_eqb}
use Rattle.file_spec.specs.Reader.{told_or}
use Rattle.file_reader.specs.Steps.State.{told_of}
use Rattle.file.proofs.junctions_of.Goals as goal

pub returns-then-found-eq1 : goal.returns-then-found-eq1
unfolding told_or told_of
returns-then-found-eq1 c = rw (eq-eqb _ _ c.if-found-eq1.true)

pub returns-then-found-eq2 : goal.returns-then-found-eq2
unfolding told_or told_of
returns-then-found-eq2 c = rw (ne_eqb _ _ c.if-found-eq1.false, eq-eqb _ _ c.if-found-eq2.true)

pub returns : goal.returns
unfolding told_or told_of
returns c =
    rw (ne_eqb _ _ c.if-found-eq1.false, ne_eqb _ _ c.if-found-eq2.false, ← c.largest_of.ensures, ← c.largest_of-2.ensures) c.max.ensures
