-- `slice::Slice::full` meets its contract: each of the 64 lowest bits of 2 ^ 64 - 1 is set. Assumes nothing.
use mathlib.Core.Bool.{Bool, ◌&&◌, and-true}
use mathlib.Core.Path.{ap, ◌∙◌, fun_ext}
use native.Mathlib.Omega.{arith}
use Rattle.rowset.specs.Sets.{up_to}
use Rattle.slice.specs.Slices.{size}
use Rattle.slice.proofs.Bits.{bit-ones}
use Rattle.slice.proofs.Laws.{component-replicate}
use Rattle.slice.proofs.Slice.full.Goals as goal

pub returns : goal.returns
returns c =
    fun_ext (λ i. component-replicate 18446744073709551615 i ∙ ap (λ (b : Bool). up_to size i && b) (bit-ones 64 _ (omega arith)) ∙ and-true (up_to size i))
