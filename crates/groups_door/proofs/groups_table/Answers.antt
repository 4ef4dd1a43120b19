-- `groups_door::groups_table` meets its contract: what `groups::groups`, `of_groups` and `write_answer` promise, one after the other. Assumes nothing.
use mathlib.Core.Path.{refl, sym, ap, ◌∙◌}
use Rattle.groups_spec.specs.Door.{groups_fields, groups_door, groups_door_groups, groups_door_rings}
use Rattle.star_spec.specs.Door.{answer_after, door_returns}
use Rattle.groups_door.proofs.groups_table.Goals as goal

pub returns-then-not-well_lent : goal.returns-then-not-well_lent
unfolding door_returns answer_after groups_door groups_door_groups groups_door_rings
returns-then-not-well_lent c =
    let ill = sym c.well_lent.ensures ∙ c.if-not-well_lent.true in
    rw ill (refl, refl, refl, refl)

pub returns : goal.returns
unfolding door_returns groups_door groups_door_groups groups_door_rings
returns c =
    let well = sym c.well_lent.ensures ∙ c.if-not-well_lent.false in
    let (told, groups, rings) = c.groups-told.ensures in
    rw well (refl, c.write_answer.ensures ∙ ap (answer_after _) (c.of_groups.ensures ∙ ap groups_fields told), groups, rings)
