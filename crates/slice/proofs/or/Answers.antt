-- `slice::or` meets its contract: each word joins the words of `x` and `y` there. Assumes nothing.
use mathlib.Core.Bool.{◌||◌}
use mathlib.Core.Path.{refl}
use borrow.Author.Rules.{rules}
use lib.Bits.{bit_or}
use Rattle.rowset.specs.Sets.{either}
use Rattle.slice.proofs.Bits.{or-bitwise}
use Rattle.slice.proofs.Merge.{joins, joined-words}
use Rattle.slice.proofs.or.Goals as goal

pub returns : goal.returns
unfolding either
returns c = joined-words _ _ ◌||◌ refl _ _ _ c.from_fn.ensures.items (λ i w q d. (search rules, joins bit_or ◌||◌ or-bitwise _ _ _ (search rules)))
