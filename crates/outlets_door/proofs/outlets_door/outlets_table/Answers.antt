-- `outlets_door::outlets_door::outlets_table` meets its contract: what the tree with exactly t rows at r, `of_built` and `write_answer` promise, one after the other. Assumes nothing.
use mathlib.Core.Path.{sym, ◌∙◌}
use Rattle.outlets_door.proofs.Laws.{outlets-shut, outlets-open}
use Rattle.outlets_door.proofs.outlets_door.outlets_table.Goals as goal

pub returns-then-not-well_lent : goal.returns-then-not-well_lent
returns-then-not-well_lent c = outlets-shut _ _ _ _ (sym c.well_lent.ensures ∙ c.if-not-well_lent.true)

pub returns : goal.returns
returns c =
    outlets-open _ _ _ _ (sym c.well_lent.ensures ∙ c.if-not-well_lent.false) c.write_answer.ensures c.of_built.ensures c.outlets-built.ensures
