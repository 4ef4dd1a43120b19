-- `file_door::of_taken` meets its contract: each case's fields, written out; n is what its own digits stand for. Assumes nothing.
use lib.IntN.{ℤ}
use mathlib.Core.Path.{refl, ap}
use native.Mathlib.Omega.{arith}
use Rattle.answer.specs.Records.{fields_of}
use Rattle.file.specs.Answers.{answer_of}
use Rattle.file_spec.specs.Door.{file_fields}
use Rattle.rowset.proofs.Signed.{natural-bits}
use Rattle.star_spec.specs.Door.{Fields}
use Rattle.file_door.proofs.of_taken.Goals as goal

pub returns-in-Ok : goal.returns-in-Ok
unfolding fields_of file_fields answer_of
returns-in-Ok c =
    let s = c.in-Ok.s in
    let written : ℤ → Fields = λ a. record { kind = 1; number = 0; out = s.names; into = s.rows; only = 0; amount = a } in
    rw c.in-Ok.is (ap written (natural-bits 63 s.n (omega arith)))

pub returns-in-Err : goal.returns-in-Err
unfolding fields_of file_fields answer_of
returns-in-Err c = rw c.in-Err.is refl
