-- `mend_groups::drop_rings` meets its contract. The loop's invariant: the state is that after i rows, and there are at most i records.
-- Assumes nothing.
use Prim.Native.Nat.{◌≤◌}
use mathlib.Core.Path.{◌≡◌}
use Rattle.mend_groups.specs.Steps.Machine.{state_of, drop_at, visits}
use Rattle.mend_groups.proofs.drop_rings.Given as goal

abbrev pub invariant-loop-i : goal.invariant-loop-i
invariant-loop-i l = (l.s.count ≤ l.i) × (state_of l.s l.list l.labels ≡ visits (drop_at l.left l.right) l.i (state_of l.initial.s l.initial.list l.initial.labels))
