-- `file_line::line_of` meets its contract: nothing, a struck trench, the number of junctions, or a trench. Assumes nothing.
use mathlib.Core.Path.{sym, ◌∙◌}
use Rattle.stp_words.specs.Bytes.{bytes}
use Rattle.file_text.specs.Steps.Spans.{part}
use Rattle.file_spec.specs.Line.{line_of}
use Rattle.file_line.specs.Steps.Seen.{line_in}
use Rattle.file_line.proofs.Lined.{said-none, said-struck, said-count, said_plain}
use Rattle.file_line.proofs.line_of.Goals as goal

pub returns-then-x-eq0-clause-result_value : goal.returns-then-x-eq0-clause-result_value
unfolding line_in line_of
returns-then-x-eq0-clause-result_value c = said-none _ _ _ _ c.fields_of-x.ensures c.if-x-eq0.true

pub returns-then-same-clause-result_value : goal.returns-then-same-clause-result_value
unfolding line_of part bytes
returns-then-same-clause-result_value c =
    let r = c.fields_of-x.ensures in
    c.trench_line.ensures.result_value _ r ∙ said-struck _ _ _ _ r c.if-x-eq0.false (sym c.same.ensures ∙ c.if-same.true)

pub returns-then-same-2-clause-result_value : goal.returns-then-same-2-clause-result_value
unfolding line_of part bytes
returns-then-same-2-clause-result_value c =
    let r = c.fields_of-x.ensures in
    c.count_line.ensures.result_value _ r ∙ said-count _ _ _ _ r c.if-x-eq0.false (sym c.same.ensures ∙ c.if-same.false) (sym c.same-2.ensures ∙ c.if-same-2.true)

pub returns-clause-result_value : goal.returns-clause-result_value
unfolding line_of part bytes
returns-clause-result_value c =
    let r = c.fields_of-x.ensures in
    c.trench_line-2.ensures.result_value _ r ∙ said_plain _ _ _ _ r c.if-x-eq0.false (sym c.same.ensures ∙ c.if-same.false) (sym c.same-2.ensures ∙ c.if-same-2.false)
