-- `change::carry::bring` meets its contract. The loop's invariant: the bytes of the rows from i on are at their numbers.
-- Assumes nothing.
use Prim.Native.Nat.{◌≤◌}
use lib.ListN.{drop}
use mathlib.Core.Path.{◌≡◌}
use Rattle.change_spec.specs.Carrying.{brought_to}
use Rattle.change.proofs.carry.bring.Given as goal

abbrev pub invariant-loop-i : goal.invariant-loop-i
invariant-loop-i l = (l.i ≤ 1024) × (l.column ≡ brought_to (drop l.i l.numbers) (drop l.i l.claim) l.initial.column)
