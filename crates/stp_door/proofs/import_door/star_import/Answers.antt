-- `stp_door::import_door::star_import` meets its contract: what the import, `of_imported` and `write_answer` promise, one after the other. Assumes nothing.
use mathlib.Core.Path.{refl, sym, ap, ◌∙◌}
use Rattle.stp_meaning.proofs.Bytes.{import-call}
use Rattle.star_spec.specs.Door.{answer_after, door_returns}
use Rattle.stp_spec.specs.Door.{import_fields, import_door, left_door, right_door, weight_door}
use Rattle.stp_door.proofs.import_door.star_import.Goals as goal

pub returns-then-not-well_lent : goal.returns-then-not-well_lent
unfolding door_returns answer_after import_door left_door right_door weight_door
returns-then-not-well_lent c =
    let a = c.args in
    let ill = sym c.well_lent.ensures ∙ c.if-not-well_lent.true in
    let told = import-call {text = a.text.now} {left = a.left.now} {right = a.right.now} {weight = a.weight.now} {answer = a.answer.now} {after = a.answer.now} {left' = a.left.now} {right' = a.right.now} {weight' = a.weight.now} {r = 0}
    (rw ill (refl, (refl, (refl, (refl, refl))))) in
    record { returned = told.0; answered = told.1.0; lefts = told.1.1.0; rights = told.1.1.1.0; weights = told.1.1.1.1.0; means = told.1.1.1.1.1 }

pub returns : goal.returns
unfolding door_returns import_door left_door right_door weight_door
returns c =
    let a = c.args in
    let well = sym c.well_lent.ensures ∙ c.if-not-well_lent.false in
    let i = c.import-i.ensures in
    let told = import-call {text = a.text.now} {left = a.left.now} {right = a.right.now} {weight = a.weight.now} {answer = a.answer.now} {after = c.write_answer.new.answer} {left' = c.import-i.new.left} {right' = c.import-i.new.right} {weight' = c.import-i.new.weight} {r = 1}
    (rw well (refl, (c.write_answer.ensures ∙ ap (answer_after _) (c.of_imported-x.ensures ∙ ap import_fields i.answer), (i.lefts, (i.rights, i.weights))))) in
    record { returned = told.0; answered = told.1.0; lefts = told.1.1.0; rights = told.1.1.1.0; weights = told.1.1.1.1.0; means = told.1.1.1.1.1 }
