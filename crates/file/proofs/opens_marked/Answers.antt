-- `file::opens_marked` meets its contract. Assumes nothing.
use mathlib.Core.Path.{◌∙◌}
use Rattle.file.proofs.Laws.{same-opening}
use Rattle.file.proofs.opens_marked.Goals as goal

pub returns : goal.returns
returns c = c.starts_with.ensures.value ∙ same-opening c.args.text.now
