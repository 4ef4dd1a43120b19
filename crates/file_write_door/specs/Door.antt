-- The door of the writer: the sixteen bytes of its answer, and the lent text afterwards.
-- Assumes nothing.
use Rattle.std.specs.Prelude.{ℕ, cond, List, ◌++◌, pos, length, drop}
use Rattle.std.proofs.Math.Option.{Option, none, some}
use Rattle.file_write_checks.specs.Checks.{write_cause}
use Rattle.file_writer.specs.Columns.{Sheet, trenches_of}
use Rattle.file_writer.specs.Forms.{form_text}
use Rattle.refusal.specs.declared.Refusal.{Refusal}
use Rattle.star_spec.specs.Door.{Fields, well_lent, answer_after}

-- the text of all rows
unfoldable pub sheet_text : ℕ → ℕ → Sheet → List ℕ
sheet_text s n x = form_text s n (trenches_of x (length x.left))

-- kind 1 is written, with the text's length in bytes 8 to 15; kind 0 is refused, with the number and, in bytes 8 to 15, the place, which two bytes do not hold
unfoldable pub write_fields : Option Refusal → List ℕ → Fields
write_fields none text = record { kind = 1; number = 0; out = 0; into = 0; only = 0; amount = pos (length text) }
write_fields (some r) text = record { kind = 0; number = r.number; out = 0; into = 0; only = 0; amount = pos r.place }

-- what is lent for the text, afterwards: the text at its start, and behind it what it held; a refusal changes nothing
unfoldable pub out_after : Option Refusal → List ℕ → List ℕ → List ℕ
out_after none text out = text ++ drop (length text) out
out_after (some r) text out = out

unfoldable pub write_door : ℕ → ℕ → Sheet → (out answer : List ℕ) → List ℕ
write_door s n x out answer = answer_after answer (write_fields (write_cause s x (length out)) (sheet_text s n x))

-- an answer of another length than sixteen bytes leaves everything as it was
unfoldable pub write_door_out : ℕ → ℕ → Sheet → (out answer : List ℕ) → List ℕ
write_door_out s n x out answer = cond (well_lent answer) (out_after (write_cause s x (length out)) (sheet_text s n x) out) out
