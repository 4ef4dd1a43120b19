-- `which::number_of` meets its contract, case by case. Assumes nothing.
use Rattle.which_spec.specs.Door.{plan_number}
use Rattle.which_decide.specs.Answers.{standing, answer_of}
use Rattle.which.proofs.number_of.Goals as goal

pub returns-in-Ok-First : goal.returns-in-Ok-First
unfolding plan_number answer_of standing
returns-in-Ok-First c =
    let it = rw c.in-Ok-First.is at c.in-Ok-First.field-0-is in
    rw (c.in-Ok-First.is, it)

pub returns-in-Ok-Second : goal.returns-in-Ok-Second
unfolding plan_number answer_of standing
returns-in-Ok-Second c =
    let it = rw c.in-Ok-Second.is at c.in-Ok-Second.field-0-is in
    rw (c.in-Ok-Second.is, it)

pub returns-in-Err : goal.returns-in-Err
unfolding plan_number answer_of
returns-in-Err c = rw c.in-Err.is
