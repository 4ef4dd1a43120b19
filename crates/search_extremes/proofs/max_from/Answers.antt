-- `search_extremes::max_from` meets its contract: the order of the integers is that of the columns of which the first is turned over.
-- Assumes nothing.
use mathlib.Core.Path.{sym, ◌∙◌}
use Rattle.search_columns.proofs.Loops.{component-in}
use Rattle.search_extremes.proofs.Signs.{max-turned}
use Rattle.search_extremes.proofs.max_from.Goals as goal

pub returns : goal.returns
returns c = c.extreme_from.ensures ∙ sym (max-turned _ _ _ (component-in _) _)
