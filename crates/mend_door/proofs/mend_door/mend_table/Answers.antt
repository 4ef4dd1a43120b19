-- `mend_door::mend_door::mend_table` meets its contract: what mending, `of_mended` and `write_answer` promise, one after the other. Assumes nothing.
use mathlib.Core.Path.{sym, ◌∙◌, ap}
use Rattle.mend_door.proofs.Laws.{mend-shut, mend-open}
use Rattle.star_spec.specs.Door.{answer_after}
use Rattle.mend_door.proofs.mend_door.mend_table.Goals as goal

pub returns-then-not-well_lent : goal.returns-then-not-well_lent
returns-then-not-well_lent c = mend-shut _ _ _ (sym c.well_lent.ensures ∙ c.if-not-well_lent.true)

pub returns : goal.returns
returns c =
    mend-open _ _ _ (sym c.well_lent.ensures ∙ c.if-not-well_lent.false) c.mend-mended.ensures (c.write_answer.ensures ∙ ap (answer_after _) c.of_mended.ensures) c.count_of.ensures
