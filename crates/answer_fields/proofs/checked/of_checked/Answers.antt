-- `answer_fields::checked::of_checked` meets its contract: the two rows are written beside a pass that is not the only one, and else the fields are those of the verdict. Assumes nothing.
use mathlib.Core.Path.{refl, ◌∙◌}
use Rattle.answer.specs.Records.{fields_of}
use Rattle.cst.specs.Verdicts.{verdict_of, answer_of, equal_rows_of}
use Rattle.star_spec.specs.Door.{fields, fields_beside}
use Rattle.answer_fields.proofs.checked.of_checked.Goals as goal

pub returns-in_default : goal.returns-in_default
unfolding answer_of equal_rows_of fields fields_beside
returns-in_default c = c.of_verdict.ensures ∙ rw c.in_default.is refl

pub returns-in_default-verdict : goal.returns-in_default-verdict
unfolding verdict_of answer_of equal_rows_of fields fields_beside
returns-in_default-verdict c = c.of_verdict-in_default-verdict.ensures ∙ rw (c.in-Ok.is, c.in_default-verdict.is) refl

pub returns-then-pass : goal.returns-then-pass
unfolding verdict_of answer_of equal_rows_of fields fields_beside
returns-then-pass c = c.of_verdict-then-pass.ensures ∙ rw (c.in-Ok.is, c.in-Passed.is, c.if-pass.true) refl

pub returns : goal.returns
unfolding fields_of answer_of verdict_of equal_rows_of fields_beside
returns c = rw (c.in-Ok.is, c.in-Passed.is, c.if-pass.false) refl
