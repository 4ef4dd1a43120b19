-- `restore_door::restore_door::star_restore` meets its contract: what restoring, `of_outcome` and `write_answer` promise, one after the other. Assumes nothing.
use mathlib.Core.Path.{◌≡◌, sym, ap, ◌∙◌}
use Rattle.restore_spec.proofs.Bytes.{restore-call}
use Rattle.restore_spec.specs.Restoring.{restore_door, restore_door_words}
use Rattle.star_spec.specs.Door.{answer_after, door_returns, outcome_fields}
use Rattle.restore_door.proofs.restore_door.star_restore.Goals as goal

pub returns-then-not-well_lent : goal.returns-then-not-well_lent
unfolding door_returns answer_after restore_door restore_door_words
returns-then-not-well_lent c =
    let a = c.args in
    let ill = sym c.well_lent.ensures ∙ c.if-not-well_lent.true in
    let returned : 0 ≡ door_returns a.answer.now = rw ill in
    let answered : a.answer.now ≡ restore_door a.words.now a.row a.answer.now = rw ill in
    let rows : a.words.now ≡ restore_door_words a.words.now a.row a.answer.now = rw ill in
    record { returned = returned; answered = answered; rows = rows; means = (restore-call (returned, (answered, rows))).1.1.1 }

pub returns : goal.returns
unfolding door_returns restore_door restore_door_words
returns c =
    let a = c.args in
    let well = sym c.well_lent.ensures ∙ c.if-not-well_lent.false in
    let returned : 1 ≡ door_returns a.answer.now = rw well in
    let answered : c.write_answer.new.answer ≡ restore_door a.words.now a.row a.answer.now = c.write_answer.ensures ∙ ap (answer_after _) (c.of_outcome.ensures ∙ ap outcome_fields c.restore-outcome.ensures.answer) in
    let rows : c.restore-outcome.new.words ≡ restore_door_words a.words.now a.row a.answer.now = rw well c.restore-outcome.ensures.rows in
    record { returned = returned; answered = answered; rows = rows; means = (restore-call (returned, (answered, rows))).1.1.1 }
