-- `cst_door::other_door::answered` meets its contract: what CST, `of_checked` and `write_answer` promise, one after the other. Assumes nothing.
use mathlib.Core.Path.{sym, ◌∙◌}
use Rattle.cst_door.proofs.Laws.{other-shut, other-open}
use Rattle.cst_door.proofs.other_door.answered.Goals as goal

pub returns-then-not-well_lent : goal.returns-then-not-well_lent
returns-then-not-well_lent c =
    let told = other-shut _ _ (sym c.well_lent.ensures ∙ c.if-not-well_lent.true) in record { returned = told.0; answered = told.1 }

pub returns : goal.returns
returns c =
    let told = other-open _ _ (sym c.well_lent.ensures ∙ c.if-not-well_lent.false) c.write_answer.ensures c.of_checked-x.ensures (c.cst-checked.ensures.verdict, c.cst-checked.ensures.rows) in
    record { returned = told.0; answered = told.1 }
