-- `answer::of_outcome` meets its contract: each case's fields, written out. Assumes nothing.
use mathlib.Core.Path.{refl}
use Rattle.answer.specs.Records.{fields_of}
use Rattle.refusal.specs.Outcomes.{refusal_of}
use Rattle.rowset.specs.Integers.{from_bits}
use Rattle.star_spec.specs.Door.{outcome_fields}
use Rattle.answer.proofs.of_outcome.Goals as goal

pub returns-in-Ok : goal.returns-in-Ok
unfolding fields_of outcome_fields refusal_of from_bits
returns-in-Ok c = rw c.in-Ok.is refl

pub returns-in-Err : goal.returns-in-Err
unfolding outcome_fields refusal_of
returns-in-Err c = rw c.in-Err.is c.of_refusal.ensures
