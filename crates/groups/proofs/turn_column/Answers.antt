-- `groups::turn_column` meets its contract: the column is written where the vertex has the label, and nothing otherwise.
-- Assumes nothing.
use mathlib.Core.Path.{sym, ◌∙◌}
use Rattle.groups.proofs.Steps.{turned-has, turned-lacks}
use Rattle.groups.proofs.turn_column.Goals as goal

pub returns-then-row_byte-x : goal.returns-then-row_byte-x
returns-then-row_byte-x c = (cc) ∙ sym (turned-has _ _ _ _ _ (cc))

pub returns-else-row_byte-x : goal.returns-else-row_byte-x
returns-else-row_byte-x c = sym (turned-lacks _ _ _ _ _ (λ e. c.if-row_byte-x.false (c.row_byte.ensures ∙ e)))
