-- `groups::call_check` meets its contract: the causes in order. Assumes nothing.
use mathlib.Core.Path.{◌∙◌}
use Rattle.groups.proofs.Answers.{lent-in-order}
use Rattle.table_checks.proofs.Laws.{refused-on, done_next}
use Rattle.groups.proofs.call_check.Goals as goal

pub returns-in_err-size_check : goal.returns-in_err-size_check
returns-in_err-size_check c = refused-on _ _ c.in_err-size_check.was c.from_residual.ensures.1 c.size_check.ensures ∙ lent-in-order _ _ _

pub returns-in_err-refused_if : goal.returns-in_err-refused_if
returns-in_err-refused_if c =
    done_next _ _ _ _ c.in_ok-size_check.was c.size_check.ensures (refused-on _ _ c.in_err-refused_if.was c.from_residual-in_err-refused_if.ensures.1 c.refused_if.ensures)
    ∙ lent-in-order _ _ _

pub returns-in_err-refused_if-2 : goal.returns-in_err-refused_if-2
returns-in_err-refused_if-2 c =
    done_next _ _ _ _ c.in_ok-size_check.was c.size_check.ensures
    (done_next _ _ _ _ c.in_ok-refused_if.was c.refused_if.ensures (refused-on _ _ c.in_err-refused_if-2.was c.from_residual-in_err-refused_if-2.ensures.1 c.refused_if-2.ensures))
    ∙ lent-in-order _ _ _

pub returns : goal.returns
returns c =
    done_next _ _ _ _ c.in_ok-size_check.was c.size_check.ensures
    (done_next _ _ _ _ c.in_ok-refused_if.was c.refused_if.ensures (done_next _ _ _ _ c.in_ok-refused_if-2.was c.refused_if-2.ensures c.claim_check.ensures))
    ∙ lent-in-order _ _ _
