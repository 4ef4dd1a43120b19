-- `change_door::merge_door::star_merge` meets its contract: what MERGE, `of_outcome` and `write_answer` promise, one after the other. Assumes nothing.
use mathlib.Core.Path.{◌≡◌, sym, ap, ◌∙◌}
use Rattle.change_meaning.proofs.Bytes.{merge-call}
use Rattle.star_spec.specs.Door.{answer_after, door_returns, outcome_fields}
use Rattle.change_spec.specs.Door.{merge_door, merge_door_table}
use Rattle.change_spec.specs.Tables.{working}
use Rattle.change_door.proofs.merge_door.star_merge.Goals as goal

pub returns-then-not-well_lent : goal.returns-then-not-well_lent
unfolding door_returns answer_after merge_door merge_door_table
returns-then-not-well_lent c =
    let a = c.args in
    let t = working a.words.now a.left.now a.right.now a.weight.now a.numbers.now in
    let ill = sym c.well_lent.ensures ∙ c.if-not-well_lent.true in
    let returned : 0 ≡ door_returns a.answer.now = rw ill in
    let answered : a.answer.now ≡ merge_door t a.answer.now = rw ill in
    let table : t ≡ merge_door_table t a.answer.now = rw ill in
    record { returned = returned; answered = answered; table = table; means = (merge-call (returned, (answered, table))).1.1.1 }

pub returns : goal.returns
unfolding door_returns merge_door merge_door_table
returns c =
    let a = c.args in
    let t = working a.words.now a.left.now a.right.now a.weight.now a.numbers.now in
    let well = sym c.well_lent.ensures ∙ c.if-not-well_lent.false in
    let n = c.merge-outcome.new in
    let returned : 1 ≡ door_returns a.answer.now = rw well in
    let answered : c.write_answer.new.answer ≡ merge_door t a.answer.now = c.write_answer.ensures ∙ ap (answer_after _) (c.of_outcome.ensures ∙ ap outcome_fields c.merge-outcome.ensures.answer) in
    let table : working n.words n.left n.right n.weight n.numbers ≡ merge_door_table t a.answer.now = rw well c.merge-outcome.ensures.table in
    record { returned = returned; answered = answered; table = table; means = (merge-call (returned, (answered, table))).1.1.1 }
