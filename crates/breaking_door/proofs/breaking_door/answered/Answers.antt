-- `breaking_door::breaking_door::answered` meets its contract: what the breaking price, `of_breaks` and `write_answer` promise, one after the other. Assumes nothing.
use mathlib.Core.Path.{sym, ◌∙◌}
use Rattle.breaking_door.proofs.Laws.{breaking-shut, breaking-open}
use Rattle.price_meaning.proofs.Breaking.{breaking-call}
use Rattle.breaking_door.proofs.breaking_door.answered.Goals as goal

pub returns-then-not-well_lent : goal.returns-then-not-well_lent
returns-then-not-well_lent c =
    let told = breaking-call (breaking-shut _ _ _ (sym c.well_lent.ensures ∙ c.if-not-well_lent.true)) in
    record { returned = told.0; answered = told.1.0; means = told.1.1 }

pub returns : goal.returns
returns c =
    let well = sym c.well_lent.ensures ∙ c.if-not-well_lent.false in
    let told = breaking-call (breaking-open _ _ _ well c.write_answer.ensures c.of_breaks-x.ensures c.told-b.ensures c.around_rows-around.ensures) in
    record { returned = told.0; answered = told.1.0; means = told.1.1 }
