-- `outlets_swaps::cheapest` meets its contract. The loop's invariant: the cheapest of the rows 1 to j. Assumes nothing.
use mathlib.Core.Path.{◌≡◌}
use Rattle.outlets_kept.specs.Steps.Offers.{cheapest_to}
use Rattle.outlets_swaps.specs.Steps.Columns.{pick_of}
use Rattle.outlets_swaps.specs.Steps.Exchanges.{number_of}
use Rattle.outlets_swaps.proofs.cheapest.Given as goal

abbrev pub invariant-loop-j : goal.invariant-loop-j
invariant-loop-j l = pick_of l.best ≡ cheapest_to (number_of l.cost) l.j
