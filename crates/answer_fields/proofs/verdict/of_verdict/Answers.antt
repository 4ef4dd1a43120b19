-- `answer_fields::verdict::of_verdict` meets its contract: each case's fields, written out, with the weight's bits handed on; a saving is what its own digits stand for; a refusal's are those of `of_refusal`. Assumes nothing.
use lib.IntN.{ℤ}
use mathlib.Core.Path.{refl, ap}
use native.Mathlib.Omega.{arith}
use Rattle.answer.specs.Records.{fields_of}
use Rattle.cst.specs.Verdicts.{verdict_of, answer_of}
use Rattle.rowset.proofs.Signed.{natural-bits}
use Rattle.star_spec.specs.Door.{Fields, fields}
use Rattle.table.proofs.Columns.{as_number}
use Rattle.answer_fields.proofs.verdict.of_verdict.Goals as goal

pub returns-in-Passed : goal.returns-in-Passed
unfolding fields_of fields verdict_of answer_of
returns-in-Passed c = let x = c.in-Passed.x in rw (c.in-Ok.is, c.in-Passed.is, as_number x.only refl) refl

pub returns-in-Lighter : goal.returns-in-Lighter
unfolding fields_of fields verdict_of answer_of
returns-in-Lighter c =
    let x = c.in-Lighter.x in
    let written : ℤ → Fields = λ a. record { kind = 2; number = 0; out = x.out; into = x.into; only = 0; amount = a } in
    rw (c.in-Ok.is, c.in-Lighter.is) (ap written (natural-bits 63 x.saving (omega arith)))

pub returns-in-Err : goal.returns-in-Err
unfolding answer_of
returns-in-Err c = rw c.in-Err.is c.of_refusal.ensures
