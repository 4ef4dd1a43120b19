-- `which::of_decision` meets its contract: a plan's fields are those of its weight, and a refusal's those of `of_refusal`. Assumes nothing.
use mathlib.Core.Path.{refl}
use Rattle.which_spec.specs.Door.{which_fields}
use Rattle.star_spec.specs.Door.{fields}
use Rattle.which_decide.specs.Answers.{standing, answer_of}
use Rattle.which.proofs.of_decision.Goals as goal

pub returns-in-Ok-First : goal.returns-in-Ok-First
unfolding which_fields answer_of standing
returns-in-Ok-First c =
    let it = rw c.in-Ok-First.is at c.in-Ok-First.field-0-is in
    rw (c.in-Ok-First.is, it) c.of_weight.ensures

pub returns-in-Ok-Second : goal.returns-in-Ok-Second
unfolding which_fields answer_of standing
returns-in-Ok-Second c =
    let it = rw c.in-Ok-Second.is at c.in-Ok-Second.field-0-is in
    rw (c.in-Ok-Second.is, it) c.of_weight-in-Ok-Second.ensures

pub returns-in-Err : goal.returns-in-Err
unfolding which_fields answer_of fields
returns-in-Err c = rw c.in-Err.is c.of_refusal.ensures
