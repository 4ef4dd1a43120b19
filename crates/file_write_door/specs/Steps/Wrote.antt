-- What was written into a lent column, or the refusal: a step of proofs, which no reader has to believe.
-- Assumes nothing.
use Rattle.std.specs.Prelude.{ℕ, List, ◌≡◌, pos, Result, Ok, Err}
use Rattle.std.proofs.Math.Option.{Option, none, some}
use Rattle.decimal.specs.Puts.{Puts}
use Rattle.refusal.specs.declared.Refusal.{Refusal}
use Rattle.rowset.specs.Integers.{from_bits}
use Rattle.star_spec.specs.Door.{Fields}

unfoldable pub Wrote : Option Refusal → (text before after : List ℕ) → Result ℕ Refusal → Type 0
Wrote c text before after (Ok size) = (c ≡ none) × Puts before 0 text after size
Wrote c text before after (Err r) = (c ≡ some r) × (after ≡ before)

-- the fields, by the number that is told
unfoldable pub told_fields : Result ℕ Refusal → Fields
told_fields (Ok size) = record { kind = 1; number = 0; out = 0; into = 0; only = 0; amount = from_bits 64 size }
told_fields (Err r) = record { kind = 0; number = r.number; out = 0; into = 0; only = 0; amount = pos r.place }
