-- `detour_door::detour_door::answered` meets its contract: what the dearest of each detour, `of_built` and `write_answer` promise, one after the other. Assumes nothing.
use mathlib.Core.Path.{refl, sym, ap, ◌∙◌}
use Rattle.detour_spec.proofs.Bytes.{detours-call}
use Rattle.detour_spec.specs.Door.{detours_door, detours_door_rows}
use Rattle.star_spec.specs.Door.{built_fields, answer_after, door_returns}
use Rattle.detour_door.proofs.detour_door.answered.Goals as goal

pub returns-then-not-well_lent : goal.returns-then-not-well_lent
unfolding door_returns detours_door answer_after detours_door_rows
returns-then-not-well_lent c =
    let ill = sym c.well_lent.ensures ∙ c.if-not-well_lent.true in
    let told = detours-call (rw ill (refl, (refl, refl))) in
    record { returned = told.0; written = told.1.0; means = told.1.1 }

pub returns : goal.returns
unfolding door_returns detours_door detours_door_rows
returns c =
    let well = sym c.well_lent.ensures ∙ c.if-not-well_lent.false in
    let (answer, numbers) = c.detours-b.ensures in
    let told = detours-call (rw well (refl, (c.write_answer.ensures ∙ ap (answer_after _) (c.of_built-x.ensures ∙ ap built_fields answer), numbers))) in
    record { returned = told.0; written = told.1.0; means = told.1.1 }
