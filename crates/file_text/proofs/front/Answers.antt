-- `file_text::front` meets its contract. Assumes nothing.
use mathlib.Core.Path.{◌≡◌, sym, ◌∙◌}
use native.Mathlib.Omega.{arith}
use Rattle.file_text.proofs.Trims.{front-more, front-stop, front-last}
use Rattle.file_text.proofs.front.Goals as goal

pub returns-then-not-is_blank-clause-to_value : goal.returns-then-not-is_blank-clause-to_value
returns-then-not-is_blank-clause-to_value c =
    sym (front-stop _ c.loop-i.i _ (omega arith) (omega arith) (sym c.is_blank.ensures ∙ c.if-not-is_blank.true)) ∙ c.loop-i.invariant

pub loop-i-preserved : goal.loop-i-preserved
loop-i-preserved c = sym (front-more _ c.loop-i.i _ (omega arith) (omega arith) (sym c.is_blank.ensures ∙ c.if-not-is_blank.false)) ∙ c.loop-i.invariant

pub returns-clause-to_value : goal.returns-clause-to_value
returns-clause-to_value c =
    let e : c.loop-i.i ≡ c.args.to = omega arith in rw e at (sym (front-last _ c.loop-i.i _ (omega arith)) ∙ c.loop-i.invariant)
