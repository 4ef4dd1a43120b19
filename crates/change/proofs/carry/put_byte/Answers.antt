-- `change::carry::put_byte` meets its contract: the byte is stored, or the number names no position. Assumes nothing.
use mathlib.Core.Path.{sym}
use native.Mathlib.Omega.{arith}
use Rattle.change_spec.proofs.Carrying.{brought-none, brought-stored, brought-past}
use Rattle.change.proofs.carry.put_byte.Goals as goal

pub returns-then-k-column : goal.returns-then-k-column
returns-then-k-column c = sym (brought-stored _ _ _ (omega arith))

pub returns-else-k-column : goal.returns-else-k-column
returns-else-k-column c = sym (brought-past _ _ _ (omega arith) (omega arith))

pub returns-else-number-gt0 : goal.returns-else-number-gt0
returns-else-number-gt0 c = sym (brought-none _ _ _ (omega arith))
