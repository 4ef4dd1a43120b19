-- `table_checks::lengths_check` meets its contract, by what its callees ensure. Assumes nothing.
use mathlib.Core.Path.{◌∙◌}
use Rattle.table_checks.proofs.lengths_check.Goals as goal

pub returns : goal.returns
returns c = c.refused_if.ensures ∙ c.wrong_lengths.ensures
