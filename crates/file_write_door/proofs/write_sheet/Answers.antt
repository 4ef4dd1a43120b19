-- `file_write_door::write_sheet` meets its contract: what is refused, or what was put. Assumes nothing.
use mathlib.Core.Path.{refl, sym}
use Rattle.refusal.proofs.Passed.{handed-on}
use Rattle.refusal.specs.Outcomes.{refusal_of}
use Rattle.file_write_door.specs.Door.{sheet_text}
use Rattle.file_write_door.specs.Steps.Wrote.{Wrote}
use Rattle.file_write_door.proofs.write_sheet.Goals as goal

pub returns-in_err-write_check : goal.returns-in_err-write_check
unfolding Wrote refusal_of
returns-in_err-write_check c = rw (handed-on _ c.from_residual.ensures.1) (sym c.in_err-write_check.ensures, refl)

pub returns : goal.returns
unfolding Wrote sheet_text refusal_of
returns c = (sym c.in_ok-write_check.ensures, c.write_table-size.ensures)
