-- `cst_door::cst_door::answered` meets its contract: what CST, `of_verdict` and `write_answer` promise, one after the other. Assumes nothing.
use mathlib.Core.Path.{sym, ◌∙◌}
use Rattle.cst_door.proofs.Laws.{cst-shut, cst-open}
use Rattle.cst_door.proofs.cst_door.answered.Goals as goal

pub returns-then-not-well_lent : goal.returns-then-not-well_lent
returns-then-not-well_lent c =
    let told = cst-shut _ _ (sym c.well_lent.ensures ∙ c.if-not-well_lent.true) in record { returned = told.0; answered = told.1 }

pub returns : goal.returns
returns c =
    let told = cst-open _ _ (sym c.well_lent.ensures ∙ c.if-not-well_lent.false) c.write_answer.ensures c.of_verdict-x.ensures c.cst-checked.ensures.verdict in
    record { returned = told.0; answered = told.1 }
