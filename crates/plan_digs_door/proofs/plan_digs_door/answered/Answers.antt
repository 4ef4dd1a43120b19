-- `plan_digs_door::plan_digs_door::answered` meets its contract: what the list of the plan, `of_list` and `write_answer` promise, one after the other. Assumes nothing.
use mathlib.Core.Path.{sym, ◌∙◌}
use native.Mathlib.Omega.{arith}
use Rattle.digs_answer.proofs.Told.{no_answer, no_room, table-told}
use Rattle.plan_digs_spec.proofs.Bytes.{plan-digs-call}
use Rattle.plan_digs_door.proofs.plan_digs_door.answered.Goals as goal

pub returns-then-not-well_lent : goal.returns-then-not-well_lent
returns-then-not-well_lent c =
    let told = plan-digs-call (no_answer _ _ _ _ (sym c.well_lent.ensures ∙ c.if-not-well_lent.true)) in record { returned = told.0; answered = told.1.0; listed = told.1.1.0; means = told.1.1.1 }

pub returns-then-text-lt-LIST_BYTES : goal.returns-then-text-lt-LIST_BYTES
returns-then-text-lt-LIST_BYTES c =
    let told = plan-digs-call (no_room _ _ _ _ (omega (arith, c.if-text-lt-LIST_BYTES.true))) in record { returned = told.0; answered = told.1.0; listed = told.1.1.0; means = told.1.1.1 }

pub returns : goal.returns
returns c =
    let told = plan-digs-call
    (table-told _ _ _ _ (sym c.well_lent.ensures ∙ c.if-not-well_lent.false) (omega (arith, c.if-text-lt-LIST_BYTES.false)) _ c.plan_list-list.ensures c.write_answer.ensures c.of_list-x.ensures) in record { returned = told.0; answered = told.1.0; listed = told.1.1.0; means = told.1.1.1 }
