-- `total_door::total_door::of_total` meets its contract: each case's fields, written out. Assumes nothing.
use mathlib.Core.Path.{refl}
use Rattle.answer.specs.Records.{fields_of}
use Rattle.star_spec.specs.Door.{fields}
use Rattle.total.specs.Answers.{answer_of}
use Rattle.total_spec.specs.Total.{total_fields}
use Rattle.total_door.proofs.total_door.of_total.Goals as goal

pub returns-in-Ok : goal.returns-in-Ok
unfolding fields_of total_fields answer_of
returns-in-Ok c = rw c.in-Ok.is refl

pub returns-in-Err : goal.returns-in-Err
unfolding total_fields fields answer_of
returns-in-Err c = rw c.in-Err.is c.of_refusal.ensures
