-- `breaking_door::breaking_door::of_breaks` meets its contract: each case's fields, written out, with the price's bits widened. Assumes nothing.
use mathlib.Core.Path.{refl}
use Rattle.answer.specs.Records.{fields_of}
use Rattle.breaking.specs.Answers.{answer_of}
use Rattle.price_spec.specs.Door.{breaking_fields}
use Rattle.rowset.specs.Integers.{from_bits}
use Rattle.star_spec.specs.Door.{fields}
use Rattle.breaking_door.proofs.breaking_door.of_breaks.Goals as goal

pub returns-in-Ok-Some : goal.returns-in-Ok-Some
unfolding fields_of breaking_fields answer_of
returns-in-Ok-Some c =
    let it = rw c.in-Ok-Some.is at c.in-Ok-Some.field-0-is in
    rw (c.in-Ok-Some.is, it, c.widened.ensures) refl

pub returns-in-Ok-None : goal.returns-in-Ok-None
unfolding fields_of breaking_fields answer_of from_bits
returns-in-Ok-None c =
    let it = rw c.in-Ok-None.is at c.in-Ok-None.field-0-is in
    rw (c.in-Ok-None.is, it) refl

pub returns-in-Err : goal.returns-in-Err
unfolding breaking_fields answer_of fields
returns-in-Err c = rw c.in-Err.is c.of_refusal.ensures
