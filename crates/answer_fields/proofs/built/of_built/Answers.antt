-- `answer_fields::built::of_built` meets its contract: each case's fields, written out, with the weight's bits handed on. Assumes nothing.
use mathlib.Core.Path.{refl}
use Rattle.answer.specs.Records.{fields_of}
use Rattle.mst1.specs.Answers.{answer_of}
use Rattle.star_spec.specs.Door.{fields, built_fields}
use Rattle.answer_fields.proofs.built.of_built.Goals as goal

pub returns-in-Ok : goal.returns-in-Ok
unfolding fields_of built_fields answer_of
returns-in-Ok c = rw c.in-Ok.is refl

pub returns-in-Err : goal.returns-in-Err
unfolding built_fields answer_of fields
returns-in-Err c = rw c.in-Err.is c.of_refusal.ensures
