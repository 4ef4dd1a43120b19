-- `best::pick_best` meets its contract. The loop's invariant: the columns hold the weights, and what is kept is what the rows before row i + 1 give. Assumes nothing.
use Prim.Native.Nat.{◌-◌, ◌≤◌}
use mathlib.Core.Path.{◌≡◌}
use Rattle.cst.specs.Steps.Paths.{weight_in}
use Rattle.search_columns.specs.Steps.Integers.{integers_after}
use Rattle.slice.specs.Slices.{size, component}
use Rattle.best.specs.Steps.Picks.{Small, pick_of, best_to}
use Rattle.best.proofs.pick_best.Given as goal

abbrev pub invariant-loop-i : goal.invariant-loop-i
invariant-loop-i l = (integers_after l.weights l.first ≡ weight_in l.weight) × (pick_of l.kept ≡ best_to l.weight l.own l.left l.right (component l.unmarked) l.i) × Small (pick_of l.kept) × (l.i ≤ l.m) × (l.m ≤ size)
