-- `slice_planes::block` meets its contract. The loop's invariant: the block so far has the bytes of the rows from number l on.
-- Assumes nothing.
use mathlib.Core.Path.{◌≡◌}
use Prim.Native.Nat.{◌+◌, ◌*◌, ◌-◌}
use Rattle.slice_planes.specs.Steps.Blocks.{from_digits, row_byte}
use Rattle.slice_planes.proofs.block.Given as goal

abbrev pub invariant-loop-l : goal.invariant-loop-l
invariant-loop-l at = at.block ≡ from_digits 256 (λ l. row_byte at.column at.stride at.offset (at.first + 8 * l)) at.l (8 - at.l)
