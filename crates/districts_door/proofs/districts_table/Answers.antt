-- `districts_door::districts_table` meets its contract: what `districts::districts`, `of_built` and `write_answer` promise, one after the other. Assumes nothing.
use mathlib.Core.Path.{sym, ◌∙◌}
use Rattle.districts_door.proofs.Laws.{districts-shut, districts-open}
use Rattle.districts_door.proofs.districts_table.Goals as goal

pub returns-then-not-well_lent : goal.returns-then-not-well_lent
returns-then-not-well_lent c = districts-shut _ _ _ _ (sym c.well_lent.ensures ∙ c.if-not-well_lent.true)

pub returns : goal.returns
returns c =
    districts-open _ _ _ _ (sym c.well_lent.ensures ∙ c.if-not-well_lent.false) c.write_answer.ensures c.of_built.ensures c.districts-built.ensures
