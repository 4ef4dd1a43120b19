-- `groups_door::of_groups` meets its contract: each case's fields, written out; a number is what its own digits stand for. Assumes nothing.
use lib.IntN.{ℤ}
use mathlib.Core.Path.{ap}
use native.Mathlib.Omega.{arith}
use Rattle.answer.specs.Records.{fields_of}
use Rattle.groups.specs.Answers.{answer_of}
use Rattle.groups_spec.specs.Door.{groups_fields}
use Rattle.rowset.proofs.Signed.{natural-bits}
use Rattle.star_spec.specs.Door.{Fields}
use Rattle.groups_door.proofs.of_groups.Goals as goal

pub returns-in-Ok : goal.returns-in-Ok
unfolding fields_of groups_fields answer_of
returns-in-Ok c =
    let counts = c.in-Ok.counts in
    let written : ℤ → Fields = λ a. record { kind = 1; number = 0; out = 0; into = counts.rings; only = 0; amount = a } in
    rw (c.in-Ok.is, c.from.ensures) (ap written (natural-bits 63 counts.groups (omega arith)))

pub returns-in-Err : goal.returns-in-Err
unfolding groups_fields answer_of
returns-in-Err c = rw c.in-Err.is c.of_refusal.ensures
