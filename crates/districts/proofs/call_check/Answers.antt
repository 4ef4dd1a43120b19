-- `districts::call_check` meets its contract: the causes in order. Assumes nothing.
use mathlib.Core.Path.{◌∙◌}
use Rattle.districts_spec.specs.Districts.{bad_forests}
use Rattle.districts.proofs.Answers.{runs-in-order}
use Rattle.table_checks.proofs.Laws.{refused-on, done_next}
use Rattle.districts.proofs.call_check.Goals as goal

pub returns-in_err-size_check : goal.returns-in_err-size_check
returns-in_err-size_check c = refused-on _ _ c.in_err-size_check.was c.from_residual.ensures.1 c.size_check.ensures ∙ runs-in-order _ _ _

pub returns-in_err-refused_if : goal.returns-in_err-refused_if
unfolding bad_forests
returns-in_err-refused_if c =
    done_next _ _ _ _ c.in_ok-size_check.was c.size_check.ensures (refused-on _ _ c.in_err-refused_if.was c.from_residual-in_err-refused_if.ensures.1 c.refused_if.ensures)
    ∙ runs-in-order _ _ _

pub returns-in_err-table_check : goal.returns-in_err-table_check
unfolding bad_forests
returns-in_err-table_check c =
    done_next _ _ _ _ c.in_ok-size_check.was c.size_check.ensures
    (done_next _ _ _ _ c.in_ok-refused_if.was c.refused_if.ensures (refused-on _ _ c.in_err-table_check.was c.from_residual-in_err-table_check.ensures.1 c.table_check.ensures))
    ∙ runs-in-order _ _ _

pub returns : goal.returns
unfolding bad_forests
returns c =
    done_next _ _ _ _ c.in_ok-size_check.was c.size_check.ensures
    (done_next _ _ _ _ c.in_ok-refused_if.was c.refused_if.ensures (done_next _ _ _ _ c.in_ok-table_check.was c.table_check.ensures c.runs_check.ensures))
    ∙ runs-in-order _ _ _
