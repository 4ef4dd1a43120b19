-- `quote_answer::of_quoted` meets its contract: each case's fields, written out, with the totals' bits handed on. Assumes nothing.
use mathlib.Core.Path.{refl}
use Rattle.answer.specs.Records.{fields_of}
use Rattle.quote.specs.Answers.{answer_of}
use Rattle.price_spec.specs.Door.{quote_fields, after_of}
use Rattle.rowset.specs.Integers.{from_bits}
use Rattle.star_spec.specs.Door.{fields}
use Rattle.quote_answer.proofs.of_quoted.Goals as goal

pub returns-in-Ok : goal.returns-in-Ok
unfolding fields_of quote_fields after_of answer_of
returns-in-Ok c = record {
  first = rw c.in-Ok.is refl;
  after = rw c.in-Ok.is refl;
}

pub returns-in-Err : goal.returns-in-Err
unfolding quote_fields after_of answer_of from_bits fields
returns-in-Err c =
    record {
      first = rw c.in-Err.is c.of_refusal.ensures;
      after = rw c.in-Err.is refl;
    }
