-- `mst1::grow_from` meets its contract. The loop's invariant: the slices are those of the fragment of k vertices.
-- Assumes nothing.
use Prim.Native.Nat.{◌≤◌, ◌<◌, ◌-◌, ◌^◌}
use mathlib.Core.Path.{◌≡◌}
use lib.ListN.{length}
use Rattle.rowset.specs.Words.{in_words}
use Rattle.table.specs.Loads.{loaded_row}
use Rattle.search_columns.specs.Steps.Integers.{integers_after}
use Rattle.mst1.specs.Steps.Growth.{graph_by, Reached}
use Rattle.mst1.proofs.grow_from.Given as goal

abbrev pub invariant-loop-k : goal.invariant-loop-k
invariant-loop-k l =
    (l.k ≤ l.n) × Reached (graph_by (loaded_row 1 l.left) (loaded_row 1 l.right) l.rows l.n) (integers_after l.weight l.first) l.k (in_words l.lefts) (in_words l.rights) (in_words l.chosen)
    × (l.n < 2 ^ 64)
    × (length l.lefts ≡ 16)
