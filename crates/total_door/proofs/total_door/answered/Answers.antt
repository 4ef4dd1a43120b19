-- `total_door::total_door::answered` meets its contract: what the total, `of_total` and `write_answer` promise, one after the other. Assumes nothing.
use mathlib.Core.Path.{◌≡◌, sym, ap, ◌∙◌}
use Rattle.in_use.specs.Tables.{table_in}
use Rattle.star_spec.specs.Door.{answer_after, door_returns}
use Rattle.total_spec.proofs.Bytes.{total-call}
use Rattle.total_spec.specs.Total.{total_fields, total_door}
use Rattle.total_door.proofs.total_door.answered.Goals as goal

pub returns-then-not-well_lent : goal.returns-then-not-well_lent
unfolding door_returns total_door answer_after
returns-then-not-well_lent c =
    let a = c.args in
    let ill = sym c.well_lent.ensures ∙ c.if-not-well_lent.true in
    let returned : 0 ≡ door_returns a.answer.now = rw ill in
    let answered : a.answer.now ≡ total_door (table_in a.n a.table a.left.now a.right.now a.weight.now a.mark.now) a.answer.now = rw ill in
    record { returned = returned; answered = answered; means = (total-call (returned, answered)).1.1 }

pub returns : goal.returns
unfolding door_returns total_door
returns c =
    let a = c.args in
    let well = sym c.well_lent.ensures ∙ c.if-not-well_lent.false in
    let returned : 1 ≡ door_returns a.answer.now = rw well in
    let answered : c.write_answer.new.answer ≡ total_door (table_in a.n a.table a.left.now a.right.now a.weight.now a.mark.now) a.answer.now = c.write_answer.ensures ∙ ap (answer_after _) (c.of_total.ensures ∙ ap total_fields c.claim_total-total.ensures) in
    record { returned = returned; answered = answered; means = (total-call (returned, answered)).1.1 }
