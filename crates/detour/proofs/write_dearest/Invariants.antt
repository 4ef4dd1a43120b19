-- `detour::write_dearest` meets its contract. The loop's invariant: the numbers before place j are written. Assumes nothing.
use Prim.Native.Nat.{◌+◌, ◌-◌}
use lib.ListN.{length}
use mathlib.Core.Path.{◌≡◌}
use Rattle.search_columns.specs.Steps.Integers.{integers_after}
use Rattle.slice.proofs.Stores.{Filled}
use Rattle.slice.specs.Slices.{component}
use Rattle.detour.specs.Steps.Machine.{dearest_in}
use Rattle.detour.proofs.write_dearest.Given as goal

abbrev pub invariant-loop-j : goal.invariant-loop-j
invariant-loop-j l = Filled (length l.initial.rows) 0 (λ k x. x ≡ dearest_in (integers_after l.weights l.first) l.own l.left l.right (component l.unmarked) (k + 1)) l.rows l.j
