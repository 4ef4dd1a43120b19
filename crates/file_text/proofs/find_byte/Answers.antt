-- `file_text::find_byte` meets its contract. Assumes nothing.
use borrow.Author.Tests.{eq-eqb, ne_eqb}
use mathlib.Core.Path.{◌≡◌, sym, ◌∙◌}
use native.Mathlib.Omega.{arith}
use Rattle.file_spec.specs.Pieces.{is_byte}
use Rattle.file_text.proofs.Parts.{first-stop, first_more, first-last}
use Rattle.file_text.proofs.find_byte.Goals as goal

pub returns-then-text-i-clause-value : goal.returns-then-text-i-clause-value
unfolding is_byte
returns-then-text-i-clause-value c = sym (first-stop _ (is_byte c.args.b) c.loop-i.i _ (omega arith) (omega arith) (eq-eqb _ _ c.if-text-i.true)) ∙ c.loop-i.invariant

pub loop-i-preserved : goal.loop-i-preserved
unfolding is_byte
loop-i-preserved c = sym (first_more _ (is_byte c.args.b) c.loop-i.i _ (omega arith) (omega arith) (ne_eqb _ _ c.if-text-i.false)) ∙ c.loop-i.invariant

pub returns-clause-value : goal.returns-clause-value
returns-clause-value c =
    let e : c.args.to ≡ c.loop-i.i = omega arith in e ∙ sym (first-last _ (is_byte c.args.b) c.loop-i.i _ (omega arith)) ∙ c.loop-i.invariant
