-- `outlets_swaps::exchanges` meets its contract. The loop's invariant: the rows, the path matrix and what is kept are those after i exchanges.
-- Assumes nothing.
use mathlib.Core.Option.{some}
use mathlib.Core.Path.{◌≡◌}
use Rattle.outlets_swaps.specs.Steps.Columns.{given_of}
use Rattle.outlets_swaps.specs.Steps.Exchanges.{exchanges_to}
use Rattle.slice.specs.Slices.{component}
use Rattle.outlets_swaps.proofs.exchanges.Given as goal

abbrev pub invariant-loop-i : goal.invariant-loop-i
invariant-loop-i l =
    exchanges_to (given_of l.left l.right l.weight l.weights l.first (component l.at)) l.n l.i (record { chosen = component l.initial.chosen; own = l.initial.own; out = l.initial.out; cost = l.initial.cost }) ≡ some (record { chosen = component l.chosen; own = l.own; out = l.out; cost = l.cost })
