-- `change_door::add_door::star_add` meets its contract: what adding a row, `of_added` and `write_answer` promise, one after the other. Assumes nothing.
use mathlib.Core.Path.{◌≡◌, sym, ap, ◌∙◌}
use Rattle.change_meaning.proofs.Bytes.{add-call}
use Rattle.star_spec.specs.Door.{answer_after, door_returns}
use Rattle.change_spec.specs.Door.{add_fields, add_door, add_door_table}
use Rattle.change_spec.specs.Tables.{working}
use Rattle.change_door.proofs.add_door.star_add.Goals as goal

pub returns-then-not-well_lent : goal.returns-then-not-well_lent
unfolding door_returns answer_after add_door add_door_table
returns-then-not-well_lent c =
    let a = c.args in
    let t = working a.words.now a.left.now a.right.now a.weight.now a.numbers.now in
    let ill = sym c.well_lent.ensures ∙ c.if-not-well_lent.true in
    let returned : 0 ≡ door_returns a.answer.now = rw ill in
    let answered : a.answer.now ≡ add_door t a.answer.now = rw ill in
    let table : t ≡ add_door_table t a.a a.b a.price a.answer.now = rw ill in
    record { returned = returned; answered = answered; table = table; means = (add-call (returned, (answered, table))).1.1.1 }

pub returns : goal.returns
unfolding door_returns add_door add_door_table
returns c =
    let a = c.args in
    let t = working a.words.now a.left.now a.right.now a.weight.now a.numbers.now in
    let well = sym c.well_lent.ensures ∙ c.if-not-well_lent.false in
    let n = c.add_row-added.new in
    let returned : 1 ≡ door_returns a.answer.now = rw well in
    let answered : c.write_answer.new.answer ≡ add_door t a.answer.now = c.write_answer.ensures ∙ ap (answer_after _) (c.of_added.ensures ∙ ap add_fields c.add_row-added.ensures.answer) in
    let table : working n.words n.left n.right n.weight n.numbers ≡ add_door_table t a.a a.b a.price a.answer.now = rw well c.add_row-added.ensures.table in
    record { returned = returned; answered = answered; table = table; means = (add-call (returned, (answered, table))).1.1.1 }
