-- `table_loads::block` meets its contract. The loop's invariant: the block so far has the bytes of the rows from number l on. Assumes nothing.
use mathlib.Core.Path.{◌≡◌}
use Prim.Native.Nat.{◌+◌, ◌*◌, ◌-◌}
use Rattle.slice_planes.specs.Steps.Blocks.{from_digits, row_byte}
use Rattle.table_loads.proofs.block.Given as goal

abbrev pub invariant-loop-l : goal.invariant-loop-l
invariant-loop-l turn = turn.block ≡ from_digits 256 (λ l. row_byte turn.column turn.stride turn.offset (turn.first + 8 * l)) turn.l (turn.count - turn.l)
