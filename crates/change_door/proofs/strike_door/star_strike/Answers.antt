-- `change_door::strike_door::star_strike` meets its contract: what striking, `of_outcome` and `write_answer` promise, one after the other. Assumes nothing.
use mathlib.Core.Path.{◌≡◌, sym, ap, ◌∙◌}
use Rattle.change_meaning.proofs.Bytes.{strike-call}
use Rattle.star_spec.specs.Door.{answer_after, door_returns, outcome_fields}
use Rattle.change_spec.specs.Door.{strike_door, strike_door_words}
use Rattle.change_door.proofs.strike_door.star_strike.Goals as goal

pub returns-then-not-well_lent : goal.returns-then-not-well_lent
unfolding door_returns answer_after strike_door strike_door_words
returns-then-not-well_lent c =
    let a = c.args in
    let ill = sym c.well_lent.ensures ∙ c.if-not-well_lent.true in
    let returned : 0 ≡ door_returns a.answer.now = rw ill in
    let answered : a.answer.now ≡ strike_door a.words.now a.row a.answer.now = rw ill in
    let rows : a.words.now ≡ strike_door_words a.words.now a.row a.answer.now = rw ill in
    record { returned = returned; answered = answered; rows = rows; means = (strike-call (returned, (answered, rows))).1.1.1 }

pub returns : goal.returns
unfolding door_returns strike_door strike_door_words
returns c =
    let a = c.args in
    let well = sym c.well_lent.ensures ∙ c.if-not-well_lent.false in
    let returned : 1 ≡ door_returns a.answer.now = rw well in
    let answered : c.write_answer.new.answer ≡ strike_door a.words.now a.row a.answer.now = c.write_answer.ensures ∙ ap (answer_after _) (c.of_outcome.ensures ∙ ap outcome_fields c.strike-outcome.ensures.answer) in
    let rows : c.strike-outcome.new.words ≡ strike_door_words a.words.now a.row a.answer.now = rw well c.strike-outcome.ensures.rows in
    record { returned = returned; answered = answered; rows = rows; means = (strike-call (returned, (answered, rows))).1.1.1 }
