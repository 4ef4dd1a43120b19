-- `which_decide::decide` meets its contract in each of its three cases: the first plan is refused, or the second, or the weights decide. Assumes nothing.
use Rattle.std.proofs.Common.{◌∙◌}
use Rattle.refusal.proofs.Passed.{handed-on}
use Rattle.which_decide.proofs.Laws.{first-declined, second-declined, decided}
use Rattle.which_decide.specs.Answers.{answer_of}
use Rattle.which_decide.proofs.decide.Goals as goal

pub returns-in_err-plan_check : goal.returns-in_err-plan_check
unfolding answer_of
returns-in_err-plan_check c = rw (handed-on _ c.from_residual.ensures.1) (first-declined _ _ c.plan_check.ensures c.in_err-plan_check.was)

pub returns-in_err-plan_check-2 : goal.returns-in_err-plan_check-2
unfolding answer_of
returns-in_err-plan_check-2 c =
    rw (handed-on _ c.from_residual-in_err-plan_check-2.ensures.1) (second-declined _ _ c.plan_check.ensures c.in_ok-plan_check.was c.plan_check-2.ensures c.in_err-plan_check-2.was)

pub returns : goal.returns
unfolding answer_of
returns c =
    c.lighter.ensures
    ∙ decided _ _ c.plan_check.ensures c.in_ok-plan_check.was c.plan_check-2.ensures c.in_ok-plan_check-2.was
    _ _ (c.plan_weight.ensures _ _ _ _) (c.plan_weight-2.ensures _ _ _ _)
