-- The fields of what was listed, by the number that was told.
-- Assumes nothing.
use Rattle.std.specs.Prelude.{ℕ, pos, Result, Ok, Err}
use Rattle.refusal.specs.declared.Refusal.{Refusal}
use Rattle.rowset.specs.Integers.{from_bits}
use Rattle.star_spec.specs.Door.{Fields}

-- of a table
unfoldable pub table_fields : Result ℕ Refusal → Fields
table_fields (Ok size) = record { kind = 1; number = 0; out = 0; into = 0; only = 0; amount = from_bits 64 size }
table_fields (Err r) = record { kind = 0; number = r.number; out = r.place; into = 0; only = 0; amount = pos 0 }

-- of an STP text
unfoldable pub stp_fields : Result ℕ Refusal → Fields
stp_fields (Ok size) = record { kind = 1; number = 0; out = 0; into = 0; only = 0; amount = from_bits 64 size }
stp_fields (Err r) = record { kind = 0; number = r.number; out = 0; into = 0; only = 0; amount = pos r.place }
