-- `path_exchange::turn_columns` meets its contract. The loop's invariant: the first j columns are turned over.
-- Assumes nothing.
use Prim.Native.Nat.{◌-◌, ◌≤◌}
use Rattle.path_exchange.specs.Turned.{columns_turned}
use Rattle.slice.specs.Slices.{component}
use lib.ListN.{length}
use mathlib.Core.Path.{◌≡◌}
use Rattle.path_exchange.proofs.turn_columns.Given as goal

abbrev pub invariant-loop-j : goal.invariant-loop-j
invariant-loop-j l = (l.j ≤ l.n) × (l.matrix ≡ columns_turned l.initial.matrix l.j l.e (component l.ring)) × (length l.matrix ≡ length l.initial.matrix)
