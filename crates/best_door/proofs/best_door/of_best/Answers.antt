-- `best_door::best_door::of_best` meets its contract: each case's fields, written out, with the totals' bits handed on; a saving is what its own digits stand for. Assumes nothing.
use lib.IntN.{ℤ}
use mathlib.Core.Path.{refl, ap}
use native.Mathlib.Omega.{arith}
use Rattle.answer.specs.Records.{fields_of}
use Rattle.best.specs.Answers.{found_of, answer_of}
use Rattle.best_spec.specs.Door.{best_fields, least_of}
use Rattle.rowset.proofs.Signed.{natural-bits}
use Rattle.rowset.specs.Integers.{from_bits}
use Rattle.star_spec.specs.Door.{Fields, fields}
use Rattle.best_door.proofs.best_door.of_best.Goals as goal

pub returns-in-Ok-Stays : goal.returns-in-Ok-Stays
unfolding fields_of best_fields least_of found_of answer_of
returns-in-Ok-Stays c =
    let it = rw c.in-Ok-Stays.is at c.in-Ok-Stays.field-0-is in record {
      first = rw (c.in-Ok-Stays.is, it) refl;
      least = rw (c.in-Ok-Stays.is, it) refl;
    }

pub returns-in-Ok-Saves : goal.returns-in-Ok-Saves
unfolding fields_of best_fields least_of found_of answer_of
returns-in-Ok-Saves c =
    let x = c.in-Ok-Saves.x in
    let it = rw c.in-Ok-Saves.is at c.in-Ok-Saves.field-0-is in
    let written : ℤ → Fields = λ a. record { kind = 2; number = 0; out = x.out; into = x.into; only = 0; amount = a } in
    record {
      first = rw (c.in-Ok-Saves.is, it) (ap written (natural-bits 63 x.saving (omega arith)));
      least = rw (c.in-Ok-Saves.is, it) refl;
    }

pub returns-in-Err : goal.returns-in-Err
unfolding best_fields least_of answer_of from_bits fields
returns-in-Err c =
    record {
      first = rw c.in-Err.is c.of_refusal.ensures;
      least = rw c.in-Err.is refl;
    }
