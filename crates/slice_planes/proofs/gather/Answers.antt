-- `slice_planes::gather` meets its contract. Assumes nothing.
use Prim.Native.Nat.{◌+◌, ◌*◌}
use mathlib.Core.Path.{◌≡◌}
use borrow.Author.Rules.{rules}
use Rattle.slice.proofs.Made.{made}
use Rattle.slice_planes.specs.Steps.Blocks.{block_of}
use Rattle.slice_planes.proofs.gather.Goals as goal

pub returns : goal.returns
returns c =
    λ g h. made _ _ (λ i w. w ≡ block_of c.args.column.now c.args.stride c.args.offset (64 * c.args.q + i)) (λ i w q d. (search rules, search rules)) _ 8 c.from_fn.ensures.items g 0 h
