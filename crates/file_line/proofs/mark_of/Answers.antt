-- `file_line::mark_of` meets its contract. Assumes nothing.
use borrow.Author.Tests.{le-leb, lt-leb}
use native.Mathlib.Omega.{arith}
use Rattle.stp_words.specs.Answers.{number_in}
use Rattle.file_spec.specs.Line.{digit_mark}
use Rattle.file_line.proofs.Rows.{word-mark, number-mark}
use Rattle.file_line.proofs.mark_of.Goals as goal

pub returns-then-v-gt1-clause-value : goal.returns-then-v-gt1-clause-value
unfolding number_in digit_mark
returns-then-v-gt1-clause-value c = λ at. rw (lt-leb c.in-Some.v 1 (omega arith)) at (number-mark c.args.w.now at _ c.in-Some.ensures)

pub returns-else-v-gt1-clause-value : goal.returns-else-v-gt1-clause-value
unfolding number_in digit_mark
returns-else-v-gt1-clause-value c = λ at. rw (le-leb c.in-Some.v 1 (omega arith)) at (number-mark c.args.w.now at _ c.in-Some.ensures)

pub returns-then-is_yes-clause-value : goal.returns-then-is_yes-clause-value
unfolding number_in
returns-then-is_yes-clause-value c = λ at. word-mark _ at _ c.in-None.ensures (rw (← c.is_yes.ensures, c.if-is_yes.true))

pub returns-then-is_no-clause-value : goal.returns-then-is_no-clause-value
unfolding number_in
returns-then-is_no-clause-value c = λ at. word-mark _ at _ c.in-None.ensures (rw (← c.is_yes.ensures, c.if-is_yes.false, ← c.is_no.ensures, c.if-is_no.true))

pub returns-else-is_no-clause-value : goal.returns-else-is_no-clause-value
unfolding number_in
returns-else-is_no-clause-value c = λ at. word-mark _ at _ c.in-None.ensures (rw (← c.is_yes.ensures, c.if-is_yes.false, ← c.is_no.ensures, c.if-is_no.false))
