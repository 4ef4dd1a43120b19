-- `table_loads::put_planes` meets its contract. The loop's invariant: the planes before k are stored. Assumes nothing.
use Prim.Native.Nat.{◌≤◌}
use mathlib.Core.Path.{◌≡◌}
use Rattle.slice_planes.specs.Steps.Blocks.{word_of}
use Rattle.table_loads.specs.Steps.Stores.{with_planes}
use Rattle.table_loads.proofs.put_planes.Given as goal

abbrev pub invariant-loop-k : goal.invariant-loop-k
invariant-loop-k l = (l.k ≤ 8) × (l.columns ≡ with_planes l.initial.columns l.at (λ k. word_of l.blocks k 0) l.k)
