-- `slice::and` meets its contract: each word joins the words of `x` and `y` there. Assumes nothing.
use mathlib.Core.Bool.{◌&&◌}
use mathlib.Core.Path.{refl}
use borrow.Author.Rules.{rules}
use lib.Bits.{bit_and}
use Rattle.rowset.specs.Sets.{both}
use Rattle.slice.proofs.Bits.{and-bitwise}
use Rattle.slice.proofs.Merge.{joins, joined-words}
use Rattle.slice.proofs.and.Goals as goal

pub returns : goal.returns
unfolding both
returns c = joined-words _ _ ◌&&◌ refl _ _ _ c.from_fn.ensures.items (λ i w q d. (search rules, joins bit_and ◌&&◌ and-bitwise _ _ _ (search rules)))
