-- `file_door::star_read_table` meets its contract: what the reader, `of_taken` and `write_answer` promise, one after the other. Assumes nothing.
use borrow.Author.Tests.{eq-eqb, ne_eqb}
use lib.ListN.{length}
use mathlib.Core.Path.{refl, ap, ◌∙◌}
use native.Mathlib.Omega.{arith}
use Rattle.file_door_meaning.proofs.Bytes.{read-table-call}
use Rattle.file_spec.specs.Door.{file_fields, file_door, file_door_lent}
use Rattle.star_spec.specs.Door.{answer_after, well_lent, door_returns}
use Rattle.file_door.proofs.star_read_table.Goals as goal

pub returns-then-answer-ne16 : goal.returns-then-answer-ne16
unfolding door_returns well_lent file_door answer_after file_door_lent
returns-then-answer-ne16 c =
    let told = read-table-call (rw (ne_eqb (length c.args.answer.now) 16 (λ e. omega arith)) (refl, (refl, refl))) in record { returned = told.0; answered = told.1.0; lent = told.1.1.0; means = told.1.1.1 }

pub returns : goal.returns
unfolding door_returns well_lent file_door file_door_lent
returns c =
    let t = c.read_table-t.ensures in let told = read-table-call (rw (eq-eqb (length c.args.answer.now) 16 (omega arith))
    (refl, (c.write_answer.ensures ∙ ap (answer_after _) (c.of_taken-x.ensures ∙ ap file_fields t.answer), t.lent))) in record { returned = told.0; answered = told.1.0; lent = told.1.1.0; means = told.1.1.1 }
