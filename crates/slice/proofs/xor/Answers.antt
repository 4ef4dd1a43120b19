-- `slice::xor` meets its contract: each word joins the words of `x` and `y` there. Assumes nothing.
use mathlib.Core.Bool.{xor}
use mathlib.Core.Path.{refl}
use borrow.Author.Rules.{rules}
use lib.Bits.{bit_xor}
use Rattle.rowset.specs.Sets.{one_of}
use Rattle.slice.proofs.Bits.{xor-bitwise}
use Rattle.slice.proofs.Merge.{joins, joined-words}
use Rattle.slice.proofs.xor.Goals as goal

pub returns : goal.returns
unfolding one_of xor
returns c = joined-words _ _ xor refl _ _ _ c.from_fn.ensures.items (λ i w q d. (search rules, joins bit_xor xor xor-bitwise _ _ _ (search rules)))
