-- `outlets_exact::forest_of` meets its contract: a slice's rows are positions 1 to 1,024, so that one run has them all. Assumes nothing.
use mathlib.Core.Path.{◌∙◌}
use Rattle.outlets_exact.proofs.Forests.{one-run, slice_rows}
use Rattle.outlets_exact.proofs.forest_of.Goals as goal

pub returns : goal.returns
returns c = c.forests_of.ensures ∙ one-run _ _ (slice_rows _)
