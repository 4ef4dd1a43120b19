-- `table_loads::whole` meets its contract. The loop's invariant: the blocks before g are right. Assumes nothing.
use mathlib.Core.Path.{◌≡◌}
use Prim.Native.Nat.{◌+◌, ◌*◌}
use Rattle.slice_planes.specs.Steps.Blocks.{block_of}
use Rattle.slice.proofs.Stores.{Filled}
use Rattle.table_loads.proofs.whole.Given as goal

abbrev pub invariant-loop-g : goal.invariant-loop-g
invariant-loop-g l = Filled 8 0 (λ g w. w ≡ block_of l.column l.stride l.offset (64 * l.q + g)) l.blocks l.g
