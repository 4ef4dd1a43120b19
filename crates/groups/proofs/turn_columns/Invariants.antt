-- `groups::turn_columns` meets its contract. The loop's invariant: the first v columns are turned over.
-- Assumes nothing.
use mathlib.Core.Path.{◌≡◌}
use Rattle.groups.specs.Steps.Machine.{columns_turned}
use Rattle.slice.specs.Slices.{component}
use Rattle.groups.proofs.turn_columns.Given as goal

abbrev pub invariant-loop-v : goal.invariant-loop-v
invariant-loop-v l = l.own ≡ columns_turned l.labels l.initial.own l.v l.x (component l.ring)
