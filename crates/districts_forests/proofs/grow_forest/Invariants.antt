-- `districts_forests::grow_forest` meets its contract. The loop's invariant: the slices are those of the forest after k rows.
-- Assumes nothing.
use Rattle.districts_forests.proofs.Growing.{Grew}
use Rattle.search_columns.specs.Steps.Integers.{integers_after}
use Rattle.mst1.specs.Steps.Growth.{graph_by}
use Rattle.rowset.specs.Words.{in_words}
use Rattle.table.specs.Loads.{loaded_row}
use Rattle.districts_forests.proofs.grow_forest.Given as goal

abbrev pub invariant-loop-k : goal.invariant-loop-k
invariant-loop-k l =
    Grew (graph_by (loaded_row 1 l.left) (loaded_row 1 l.right) l.rows l.n) (integers_after l.weight l.first) l.k (in_words l.lefts) (in_words l.rights) (in_words l.chosen)
