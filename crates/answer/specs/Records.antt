-- An answer's record as the fields of the door: the amount is the integer that its 64 bits stand for.
-- Assumes nothing.
use Rattle.answer.specs.declared.Record.{Record}
use Rattle.rowset.specs.Integers.{from_bits}
use Rattle.star_spec.specs.Door.{Fields}

-- the record's fields
unfoldable pub fields_of : Record → Fields
fields_of x = record { kind = x.kind; number = x.number; out = x.out; into = x.into; only = x.only; amount = from_bits 64 x.amount }
