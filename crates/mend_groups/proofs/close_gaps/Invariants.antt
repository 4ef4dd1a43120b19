-- `mend_groups::close_gaps` meets its contract. The loop's invariant: the state is that after i rows, and there are at most m + i records.
-- Assumes nothing.
use Prim.Native.Nat.{◌+◌, ◌≤◌}
use mathlib.Core.Path.{◌≡◌}
use Rattle.slice.specs.Slices.{component}
use Rattle.mend_groups.specs.Steps.Machine.{state_of, add_at, visits}
use Rattle.mend_groups.proofs.close_gaps.Given as goal

abbrev pub invariant-loop-i : goal.invariant-loop-i
invariant-loop-i l = (l.s.count ≤ l.m + l.i) × (state_of l.s l.list l.labels ≡ visits (add_at (component l.used) l.left l.right) l.i (state_of l.initial.s l.initial.list l.initial.labels))
