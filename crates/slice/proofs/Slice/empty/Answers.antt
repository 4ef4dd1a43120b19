-- `slice::Slice::empty` meets its contract: no bit of 0 is set. Assumes nothing.
use mathlib.Core.Bool.{Bool, ◌&&◌, and-false}
use mathlib.Core.Path.{ap, ◌∙◌, fun_ext}
use Rattle.rowset.specs.Sets.{empty, up_to}
use Rattle.slice.specs.Slices.{size}
use Rattle.slice.proofs.Bits.{bit-of-zero}
use Rattle.slice.proofs.Laws.{component-replicate}
use Rattle.slice.proofs.Slice.empty.Goals as goal

pub returns : goal.returns
unfolding empty
returns c =
    fun_ext (λ i. component-replicate 0 i ∙ ap (λ (b : Bool). up_to size i && b) (bit-of-zero _) ∙ and-false (up_to size i))
