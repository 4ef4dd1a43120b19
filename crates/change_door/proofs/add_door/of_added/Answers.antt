-- `change_door::add_door::of_added` meets its contract: each case's fields, written out; a position is what its own digits stand for. Assumes nothing.
use lib.IntN.{ℤ}
use mathlib.Core.Path.{ap}
use native.Mathlib.Omega.{arith}
use Rattle.answer.specs.Records.{fields_of}
use Rattle.rowset.proofs.Signed.{natural-bits}
use Rattle.star_spec.specs.Door.{Fields, fields, outcome_fields}
use Rattle.change.specs.Answers.{answer_of}
use Rattle.change_spec.specs.Door.{add_fields}
use Rattle.change_door.proofs.add_door.of_added.Goals as goal

pub returns-in-Ok : goal.returns-in-Ok
unfolding fields_of add_fields answer_of
returns-in-Ok c =
    let position = c.in-Ok.position in
    let written : ℤ → Fields = λ a. record { kind = 1; number = 0; out = 0; into = 0; only = 0; amount = a } in
    rw c.in-Ok.is (ap written (natural-bits 63 position (omega arith)))

pub returns-in-Err : goal.returns-in-Err
unfolding add_fields answer_of fields outcome_fields
returns-in-Err c = rw c.in-Err.is c.of_refusal.ensures
