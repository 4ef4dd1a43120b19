-- `file_text::store` meets its contract. Assumes nothing.
use lib.Seq.{set_out}
use mathlib.Core.Path.{sym}
use native.Mathlib.Omega.{arith}
use Rattle.file_text.proofs.store.Goals as goal

pub returns-else-k-lt-FIELDS : goal.returns-else-k-lt-FIELDS
returns-else-k-lt-FIELDS c = sym (set_out _ _ _ (omega arith))
