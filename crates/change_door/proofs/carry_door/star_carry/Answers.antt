-- `change_door::carry_door::star_carry` meets its contract: what carrying, `of_outcome` and `write_answer` promise, one after the other. Assumes nothing.
use mathlib.Core.Path.{◌≡◌, sym, ap, ◌∙◌}
use Rattle.change_meaning.proofs.Bytes.{carry-call}
use Rattle.star_spec.specs.Door.{answer_after, door_returns, outcome_fields}
use Rattle.change_spec.specs.Door.{carry_door, carry_door_marks}
use Rattle.change_door.proofs.carry_door.star_carry.Goals as goal

pub returns-then-not-well_lent : goal.returns-then-not-well_lent
unfolding door_returns answer_after carry_door carry_door_marks
returns-then-not-well_lent c =
    let a = c.args in
    let ill = sym c.well_lent.ensures ∙ c.if-not-well_lent.true in
    let returned : 0 ≡ door_returns a.answer.now = rw ill in
    let answered : a.answer.now ≡ carry_door a.numbers.now a.mark.now a.answer.now = rw ill in
    let marks : a.mark.now ≡ carry_door_marks a.numbers.now a.mark.now a.answer.now = rw ill in
    record { returned = returned; answered = answered; marks = marks; means = (carry-call (returned, (answered, marks))).1.1.1 }

pub returns : goal.returns
unfolding door_returns carry_door carry_door_marks
returns c =
    let a = c.args in
    let well = sym c.well_lent.ensures ∙ c.if-not-well_lent.false in
    let returned : 1 ≡ door_returns a.answer.now = rw well in
    let answered : c.write_answer.new.answer ≡ carry_door a.numbers.now a.mark.now a.answer.now = c.write_answer.ensures ∙ ap (answer_after _) (c.of_outcome.ensures ∙ ap outcome_fields c.carry-outcome.ensures.answer) in
    let marks : c.carry-outcome.new.mark ≡ carry_door_marks a.numbers.now a.mark.now a.answer.now = rw well c.carry-outcome.ensures.marks in
    record { returned = returned; answered = answered; marks = marks; means = (carry-call (returned, (answered, marks))).1.1.1 }
