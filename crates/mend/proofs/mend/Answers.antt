-- `mend::mend` meets its contract: the call is refused, or the three passes are made.
-- Assumes nothing.
use mathlib.Core.Path.{refl, sym, ◌∙◌, ap}
use Rattle.refusal.proofs.Passed.{handed-on}
use Rattle.refusal.specs.Outcomes.{refusal_of}
use Rattle.mend.proofs.Answers.{call-refused}
use Rattle.mend.specs.Answers.{answer_of}
use Rattle.mend.proofs.mend.Goals as goal

pub returns-in_err-mend_check : goal.returns-in_err-mend_check
unfolding refusal_of answer_of
returns-in_err-mend_check c =
    let (answer, marks, list) = call-refused _ _ _ (sym c.mend_check.ensures ∙ ap refusal_of c.in_err-mend_check.was) in
    rw (handed-on _ c.from_residual.ensures.1) (answer, marks, list _ refl)

pub redraw-requires : goal.redraw-requires
unfolding refusal_of
redraw-requires c = sym c.mend_check.ensures ∙ ap refusal_of c.in_ok-mend_check.was
