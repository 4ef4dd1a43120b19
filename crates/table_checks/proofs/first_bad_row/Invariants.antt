-- `table_checks::first_bad_row` meets its contract. The loop's invariant: none of the rows above row i has wrong ends.
-- Assumes nothing.
use Prim.Native.Nat.{◌+◌, ◌-◌, ◌≤◌}
use Rattle.rowset.specs.Words.{in_words}
use Rattle.star_spec.specs.Refusals.{wrong_row}
use Rattle.table_checks.proofs.Laws.{Passed}
use Rattle.table_checks.proofs.first_bad_row.Given as goal

abbrev pub invariant-loop-i : goal.invariant-loop-i
invariant-loop-i l = (1 ≤ l.i) × (l.i ≤ l.m + 1) × Passed (wrong_row (in_words l.rows.words) l.n l.left l.right) l.i
