-- `file_writer::put_part` meets its contract. Assumes nothing.
use native.Mathlib.Omega.{arith}
use Rattle.file_writer.proofs.Writes.{puts-part, none-part}
use Rattle.file_writer.proofs.put_part.Goals as goal

pub returns-then-from-high : goal.returns-then-from-high
returns-then-from-high c = puts-part _ _ _ _ (omega arith) c.put_text.ensures

pub returns : goal.returns
returns c = none-part (omega arith) _ _ _ (omega arith)
