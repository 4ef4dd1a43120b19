-- `digs_answer::of_list` meets its contract: each case's fields, written out. Assumes nothing.
use mathlib.Core.Path.{refl}
use Rattle.answer.specs.Records.{fields_of}
use Rattle.digs_answer.specs.Steps.Fields.{table_fields}
use Rattle.star_spec.specs.Door.{fields}
use Rattle.digs_answer.proofs.of_list.Goals as goal

pub returns-in-Ok : goal.returns-in-Ok
unfolding fields_of table_fields
returns-in-Ok c = rw c.in-Ok.is refl

pub returns-in-Err : goal.returns-in-Err
unfolding table_fields fields
returns-in-Err c = rw c.in-Err.is c.of_refusal.ensures
