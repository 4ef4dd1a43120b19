-- `groups::visit_rows` meets its contract. The loop's invariant: the state is that after i rows.
-- Assumes nothing.
use mathlib.Core.Path.{◌≡◌}
use Rattle.groups.specs.Steps.Machine.{state_of, row_at, visits}
use Rattle.rowset.specs.Sets.{empty}
use Rattle.slice.specs.Slices.{component}
use Rattle.groups.proofs.visit_rows.Given as goal

abbrev pub invariant-loop-i : goal.invariant-loop-i
invariant-loop-i l = state_of l.rings l.labels l.own ≡ visits (row_at (component l.marked) l.n l.left l.right) l.i (record { rings = empty; labels = l.initial.labels; own = l.initial.own })
