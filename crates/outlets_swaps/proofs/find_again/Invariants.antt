-- `outlets_swaps::find_again` meets its contract. The loop's invariant: the numbers before place j are written, and the others as they were. Assumes nothing.
use Prim.Native.Nat.{◌-◌}
use lib.ListN.{length}
use mathlib.Core.Path.{◌≡◌}
use Rattle.outlets_swaps.specs.Steps.Columns.{given_of}
use Rattle.outlets_swaps.specs.Steps.Exchanges.{kept_as, dearest, costs}
use Rattle.outlets_swaps.proofs.Fills.{Filling}
use Rattle.slice.specs.Slices.{component}
use Rattle.outlets_swaps.proofs.find_again.Given as goal

abbrev pub invariant-loop-j : goal.invariant-loop-j
invariant-loop-j l =
    Filling (kept_as l.initial.out l.e) (dearest (given_of l.left l.right l.weight l.weights l.first (component l.at)) l.own) l.initial.out l.out l.j
    × Filling (kept_as l.initial.out l.e) (costs (given_of l.left l.right l.weight l.weights l.first (component l.at)) l.own) l.initial.cost l.cost l.j
    × (length l.initial.out ≡ length l.initial.cost)
