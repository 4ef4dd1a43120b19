-- `file_line::count_line` meets its contract. Assumes nothing.
use Rattle.stp_words.specs.Answers.{number_in}
use Rattle.file_text.specs.Steps.Spans.{part}
use Rattle.file_spec.specs.Line.{counted}
use Rattle.file_line.specs.Steps.Seen.{line_in}
use Rattle.file_line.proofs.Lined.{count-other, count-one}
use Rattle.file_line.proofs.count_line.Goals as goal

pub returns-then-x-ne2-clause-result_value : goal.returns-then-x-ne2-clause-result_value
unfolding line_in
returns-then-x-ne2-clause-result_value c = λ fs r. rw c.at.ensures (count-other _ fs _ _ r _ c.if-x-ne2.true)

pub returns-in-Some-clause-result_value : goal.returns-in-Some-clause-result_value
unfolding line_in counted number_in part
returns-in-Some-clause-result_value c = λ fs r. count-one _ fs _ _ r _ c.if-x-ne2.false _ c.in-Some.ensures

pub returns-in-None-clause-result_value : goal.returns-in-None-clause-result_value
unfolding line_in counted number_in part
returns-in-None-clause-result_value c = λ fs r. rw c.at-in-None.ensures (count-one _ fs _ _ r _ c.if-x-ne2.false _ c.in-None.ensures)
