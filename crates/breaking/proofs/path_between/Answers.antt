-- `breaking::path_between` meets its contract: the walk, and the column of v. Assumes nothing.
use mathlib.Core.Path.{◌∙◌}
use Rattle.breaking.proofs.path_between.Goals as goal

pub returns : goal.returns
returns c = c.read_column.ensures ∙ rw c.walk.ensures.words
