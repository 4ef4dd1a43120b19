-- `mend_door::mend_door::of_mended` meets its contract: each case's fields, written out; a number of records is what its own digits stand for. Assumes nothing.
use lib.IntN.{ℤ}
use mathlib.Core.Path.{ap}
use native.Mathlib.Omega.{arith}
use Rattle.answer.specs.Records.{fields_of}
use Rattle.mend_spec.specs.Door.{mend_fields}
use Rattle.mend.specs.Answers.{answer_of}
use Rattle.rowset.proofs.Signed.{natural-bits}
use Rattle.star_spec.specs.Door.{Fields, fields}
use Rattle.mend_door.proofs.mend_door.of_mended.Goals as goal

pub returns-in-Ok : goal.returns-in-Ok
unfolding fields_of mend_fields answer_of
returns-in-Ok c =
    let count = c.in-Ok.count in
    let written : ℤ → Fields = λ a. record { kind = 1; number = 0; out = 0; into = 0; only = 0; amount = a } in
    rw (c.in-Ok.is, c.from.ensures) (ap written (natural-bits 63 count (omega arith)))

pub returns-in-Err : goal.returns-in-Err
unfolding mend_fields answer_of fields
returns-in-Err c = rw c.in-Err.is c.of_refusal.ensures
