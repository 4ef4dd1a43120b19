-- `quote::replaced` meets its contract: the column and the price are copied. Assumes nothing.
use mathlib.Core.Path.{◌∙◌}
use native.Mathlib.Omega.{arith}
use Rattle.quote.proofs.Stores.{replaced-rows}
use Rattle.quote.proofs.replaced.Goals as goal

pub returns-clause-by_index : goal.returns-clause-by_index
returns-clause-by_index c =
    replaced-rows c.args.weight.now _ _ c.args.row c.args.price c.requires (omega arith) c.copy_from_slice.ensures.after (c.copy_from_slice-2.ensures.after ∙ c.to_le_bytes.ensures)
