-- `file_writer::put_junction` meets its contract. Assumes nothing.
use native.Mathlib.Omega.{arith}
use Rattle.file_writer.proofs.Writes.{puts-number, puts-named}
use Rattle.file_writer.proofs.put_junction.Goals as goal

pub returns-then-starts-eq0 : goal.returns-then-starts-eq0
returns-then-starts-eq0 c = puts-number _ _ _ _ (omega arith) (rw c.from.ensures at c.put_natural.ensures)

pub returns : goal.returns
returns c = puts-named _ _ _ _ (λ e. omega arith) c.put_name.ensures
