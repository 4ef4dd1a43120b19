-- `mst1_door::mst1_door::answered` meets its contract: what MST1, `of_built` and `write_answer` promise, one after the other. Assumes nothing.
use mathlib.Core.Path.{sym, ◌∙◌}
use Rattle.mst1_door.proofs.Laws.{mst1-shut, mst1-open}
use Rattle.mst1_door.proofs.mst1_door.answered.Goals as goal

pub returns-then-not-well_lent : goal.returns-then-not-well_lent
returns-then-not-well_lent c =
    let told = mst1-shut _ _ (sym c.well_lent.ensures ∙ c.if-not-well_lent.true) in record { returned = told.0; written = told.1 }

pub returns : goal.returns
returns c =
    let told = mst1-open _ _ (sym c.well_lent.ensures ∙ c.if-not-well_lent.false) c.write_answer.ensures c.of_built-x.ensures c.mst1-b.ensures in
    record { returned = told.0; written = told.1 }
