-- `slice_planes::split` meets its contract. The loop's invariant: the blocks before q are right. Assumes nothing.
use Prim.Native.Nat.{ℕ, ◌+◌, ◌*◌, ◌<◌}
use mathlib.Core.List.{[]}
use mathlib.Core.Path.{◌≡◌}
use lib.ListN.{get_or}
use Rattle.slice_planes.specs.Steps.Blocks.{block_of}
use Rattle.slice.proofs.Stores.{Filled}
use Rattle.slice_planes.proofs.split.Given as goal

abbrev pub invariant-loop-q : goal.invariant-loop-q
invariant-loop-q l = Filled 16 [] (λ q b. (g : ℕ) → g < 8 → get_or b g 0 ≡ block_of l.column l.stride l.offset (64 * q + g)) l.blocks l.q
