-- `path_exchange::turn_column` meets its contract: the column is written where it has row e, and nothing otherwise.
-- Assumes nothing.
use mathlib.Core.Path.{sym, ◌∙◌}
use Rattle.path_exchange.proofs.Turned.{turned-has, turned-lacks}
use Rattle.path_exchange.proofs.turn_column.Goals as goal

pub returns-then-bit_at : goal.returns-then-bit_at
returns-then-bit_at c = (cc) ∙ sym (turned-has _ _ _ _ (cc))

pub returns-else-bit_at : goal.returns-else-bit_at
returns-else-bit_at c = sym (turned-lacks _ _ _ _ (cc))
