-- `plan_digs::plan_list` meets its contract in both of its cases: the plan is refused, or its rows are listed. Assumes nothing.
use mathlib.Core.Path.{refl}
use Rattle.digs.specs.Lists.{Lists}
use Rattle.in_use.specs.Tables.{table_in}
use Rattle.plan_digs.proofs.Laws.{plan-refused, plan-listed}
use Rattle.refusal.proofs.Passed.{handed-on}
use Rattle.plan_digs.proofs.plan_list.Goals as goal

pub returns-in_err-plan_check : goal.returns-in_err-plan_check
unfolding Lists
returns-in_err-plan_check c = rw (handed-on _ c.from_residual.ensures.1) (plan-refused _ c.plan_check.ensures c.in_err-plan_check.was, refl)

pub returns : goal.returns
unfolding Lists
returns c =
    let a = c.args in
    let table = table_in a.n a.table a.left.now a.right.now a.weight.now a.mark.now in
    plan-listed table c.plan_check.ensures c.in_ok-plan_check.was c.rows_among.ensures c.claim_rows-rows.ensures c.put_list.ensures
