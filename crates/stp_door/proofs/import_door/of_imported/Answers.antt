-- `stp_door::import_door::of_imported` meets its contract: each case's fields, written out; a place is what its own digits stand for. Assumes nothing.
use lib.IntN.{ℤ}
use mathlib.Core.Path.{refl, ap}
use native.Mathlib.Omega.{arith}
use Rattle.answer.specs.Records.{fields_of}
use Rattle.rowset.proofs.Signed.{natural-bits}
use Rattle.rowset.specs.Integers.{from_bits}
use Rattle.star_spec.specs.Door.{Fields}
use Rattle.stp_spec.specs.Door.{import_fields}
use Rattle.stp.specs.Answers.{answer_of}
use Rattle.stp_door.proofs.import_door.of_imported.Goals as goal

pub returns-in-Ok : goal.returns-in-Ok
unfolding fields_of import_fields answer_of from_bits
returns-in-Ok c = rw c.in-Ok.is refl

pub returns-in-Err : goal.returns-in-Err
unfolding fields_of import_fields answer_of
returns-in-Err c =
    let r = c.in-Err.r in
    let written : ℤ → Fields = λ a. record { kind = 0; number = r.number; out = 0; into = 0; only = 0; amount = a } in
    rw c.in-Err.is (ap written (natural-bits 63 r.place (omega arith)))
