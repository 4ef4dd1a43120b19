-- `mend::swap_rows` meets its contract. The loop's invariant: the state is that after i rows, and there are at most 2 · m + i records.
-- Assumes nothing.
use Prim.Native.Nat.{◌+◌, ◌-◌, ◌*◌, ◌≤◌}
use mathlib.Core.Path.{◌≡◌}
use Rattle.path_matrix.specs.Matrix.{matrix_column}
use Rattle.rowset.specs.Columns.{width}
use Rattle.rowset.specs.Integers.{integer_in}
use Rattle.slice.specs.Slices.{component}
use Rattle.mend_groups.specs.Steps.Machine.{state_of, visits}
use Rattle.mend.specs.Steps.Machine.{swap_at}
use Rattle.mend.proofs.swap_rows.Given as goal

abbrev pub invariant-loop-i : goal.invariant-loop-i
invariant-loop-i l = (l.s.count ≤ 2 * l.m + l.i) × (state_of l.s l.list l.own ≡ visits (swap_at l.n (component l.used) (integer_in (matrix_column l.weights) l.first (width - l.first)) l.left l.right l.weight) l.i (state_of l.initial.s l.initial.list l.initial.own))
