-- `file_text::line_end` meets its contract. Assumes nothing.
use mathlib.Core.Path.{◌≡◌, sym, ◌∙◌}
use native.Mathlib.Omega.{arith}
use Rattle.file_spec.specs.Pieces.{ends_line}
use Rattle.file_text.proofs.Parts.{first-stop, first_more, first-last}
use Rattle.file_text.proofs.line_end.Goals as goal

pub returns-then-ends_line-clause-value : goal.returns-then-ends_line-clause-value
returns-then-ends_line-clause-value c = sym (first-stop _ ends_line c.loop-i.i _ (omega arith) (omega arith) (sym c.ends_line.ensures ∙ c.if-ends_line.true)) ∙ c.loop-i.invariant.1

pub loop-i-preserved : goal.loop-i-preserved
loop-i-preserved c =
    (omega arith, sym (first_more _ ends_line c.loop-i.i _ (omega arith) (omega arith) (sym c.ends_line.ensures ∙ c.if-ends_line.false)) ∙ c.loop-i.invariant.1)

pub returns-clause-value : goal.returns-clause-value
returns-clause-value c =
    let e : c.max.result ≡ c.loop-i.i = omega arith in e ∙ sym (first-last _ ends_line c.loop-i.i _ (omega arith)) ∙ c.loop-i.invariant.1
