-- `digs_answer::of_text_list` meets its contract: each case's fields, written out. Assumes nothing.
use lib.IntN.{ℤ}
use mathlib.Core.Path.{refl, ap}
use native.Mathlib.Omega.{arith}
use Rattle.answer.specs.Records.{fields_of}
use Rattle.digs_answer.specs.Steps.Fields.{stp_fields}
use Rattle.rowset.proofs.Signed.{natural-bits}
use Rattle.star_spec.specs.Door.{Fields}
use Rattle.digs_answer.proofs.of_text_list.Goals as goal

pub returns-in-Ok : goal.returns-in-Ok
unfolding fields_of stp_fields
returns-in-Ok c = rw c.in-Ok.is refl

pub returns-in-Err : goal.returns-in-Err
unfolding fields_of stp_fields
returns-in-Err c =
    let r = c.in-Err.refusal in
    let written : ℤ → Fields = λ a. record { kind = 0; number = r.number; out = 0; into = 0; only = 0; amount = a } in
    rw c.in-Err.is (ap written (natural-bits 63 r.place (omega arith)))
