-- `file_write_door::of_written` meets its contract: each case's fields, written out. Assumes nothing.
use lib.IntN.{ℤ}
use mathlib.Core.Path.{refl, ap}
use native.Mathlib.Omega.{arith}
use Rattle.answer.specs.Records.{fields_of}
use Rattle.file_write_door.specs.Steps.Wrote.{told_fields}
use Rattle.rowset.proofs.Signed.{natural-bits}
use Rattle.star_spec.specs.Door.{Fields}
use Rattle.file_write_door.proofs.of_written.Goals as goal

pub returns-in-Ok : goal.returns-in-Ok
unfolding fields_of told_fields
returns-in-Ok c = rw c.in-Ok.is refl

pub returns-in-Err : goal.returns-in-Err
unfolding fields_of told_fields
returns-in-Err c =
    let r = c.in-Err.r in
    let written : ℤ → Fields = λ a. record { kind = 0; number = r.number; out = 0; into = 0; only = 0; amount = a } in
    rw c.in-Err.is (ap written (natural-bits 63 r.place (omega arith)))
