-- `file::read_text` meets its contract: too long, or its lines read. Assumes nothing.
use lib.ListN.{length}
use mathlib.Core.Path.{sym, ap, ◌∙◌}
use Rattle.file_spec.specs.Pieces.{lines}
use Rattle.file_spec.specs.Reader.{Read, read_lines}
use Rattle.file_text.specs.Steps.Spans.{part}
use Rattle.file_reader.specs.Steps.State.{resumed}
use Rattle.file.proofs.Laws.{too_long, taken-whole}
use Rattle.file.proofs.read_text.Goals as goal

pub returns-then-text-gt-MAX_TEXT-clause-text_value : goal.returns-then-text-gt-MAX_TEXT-clause-text_value
unfolding resumed
returns-then-text-gt-MAX_TEXT-clause-text_value c = rw c.at.ensures (too_long _ c.if-text-gt-MAX_TEXT.true)

pub read_lines-requires : goal.read_lines-requires
read_lines-requires c =
    let p = c.requires in record { text_len_bound = (c.if-text-gt-MAX_TEXT.false, c.body_at-from.ensures.1); sized = p.sized; sound = p.sound }

pub returns : goal.returns
returns c =
    let p = c.requires in
    let b = c.body_at-from.ensures in
    let r = c.read_lines.ensures in
    let text = c.args.text.now in
    let at = c.body_at-from.result in record { text_value = taken-whole _ _ c.if-text-gt-MAX_TEXT.false b.0 b.1 ∙ ap (λ (x : Read). read_lines x (lines at (part text at (length text)))) (sym p.rows_value) ∙ r.text_value; sized = r.sized; sound = r.sound }
