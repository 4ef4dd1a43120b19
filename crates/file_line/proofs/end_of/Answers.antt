-- `file_line::end_of` meets its contract. Assumes nothing.
use borrow.Author.Tests.{le-leb, lt-leb}
use mathlib.Core.Logic.{⊎_elim}
use mathlib.Core.Path.{refl}
use native.Mathlib.Omega.{arith}
use Rattle.stp_words.specs.Answers.{number_in}
use Rattle.file_text.specs.Steps.Spans.{part}
use Rattle.file_spec.specs.Line.{numbered, end_of}
use Rattle.file_line.specs.Steps.Seen.{end_in, Lying, Placed}
use Rattle.file_line.proofs.end_of.Goals as goal

pub returns-then-v-lt1-clause-value : goal.returns-then-v-lt1-clause-value
unfolding end_of numbered number_in part
returns-then-v-lt1-clause-value c =
    rw (← c.in-Some.ensures)
    (⊎_elim (λ w. rw (lt-leb 1 c.in-Some.v w)) (λ w. rw (le-leb 1 c.in-Some.v w.0, lt-leb c.in-Some.v 255 w.1)) c.then-v-lt1.either)

pub returns-else-v-gt255-clause-value : goal.returns-else-v-gt255-clause-value
unfolding end_of numbered number_in part end_in
returns-else-v-gt255-clause-value c = rw (← c.in-Some.ensures, le-leb 1 c.in-Some.v (omega arith), le-leb c.in-Some.v 255 (omega arith))

pub returns-else-v-gt255-clause-good : goal.returns-else-v-gt255-clause-good
unfolding Lying Placed
returns-else-v-gt255-clause-good c = (omega arith, tt)

pub returns-then-is_name-clause-value : goal.returns-then-is_name-clause-value
unfolding end_of numbered number_in part end_in
returns-then-is_name-clause-value c = rw (← c.in-None.ensures, ← c.is_name.ensures, c.if-is_name.true)

pub returns-then-is_name-clause-good : goal.returns-then-is_name-clause-good
unfolding Lying Placed
returns-then-is_name-clause-good c = (c.requires, refl)

pub returns-else-is_name-clause-value : goal.returns-else-is_name-clause-value
unfolding end_of numbered number_in part
returns-else-is_name-clause-value c = rw (← c.in-None.ensures, ← c.is_name.ensures, c.if-is_name.false)
