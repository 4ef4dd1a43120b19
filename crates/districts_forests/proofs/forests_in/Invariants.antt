-- `districts_forests::forests_in` meets its contract. The loop's invariant: the forests gathered, with those of the ends that are left, are all.
-- Assumes nothing.
use Rattle.districts_forests.proofs.Runs.{Gathered}
use Rattle.search_columns.specs.Steps.Integers.{integers_after}
use Rattle.mst1.specs.Steps.Growth.{graph_by}
use Rattle.slice.specs.Slices.{component}
use Rattle.table.specs.Loads.{loaded_row}
use Rattle.districts_forests.proofs.forests_in.Given as goal

abbrev pub invariant-loop-end : goal.invariant-loop-end
invariant-loop-end l = Gathered (graph_by (loaded_row 1 l.left) (loaded_row 1 l.right) l.rows l.n) (integers_after l.weight l.first) l.ends (component l.all) l.p l.end-index
