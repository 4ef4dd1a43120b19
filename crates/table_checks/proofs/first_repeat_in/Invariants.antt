-- `table_checks::first_repeat_in` meets its contract. The loop's invariant: none of the rows above `row` repeats one above it, and the set has exactly their pairs.
-- Assumes nothing.
use Prim.Native.Nat.{◌+◌, ◌-◌, ◌≤◌}
use lib.ListN.{length}
use Rattle.rowset.specs.Words.{in_words}
use Rattle.star_spec.specs.Refusals.{repeats_above}
use Rattle.table_checks.proofs.Laws.{Passed}
use Rattle.table_checks.proofs.Repeats.{Above}
use Rattle.table_checks.proofs.first_repeat_in.Given as goal

abbrev pub invariant-loop-row : goal.invariant-loop-row
invariant-loop-row l = (1 ≤ l.row) × (l.row ≤ l.m + 1) × Passed (repeats_above (in_words l.rows.words) l.left l.right) l.row × Above (in_words l.rows.words) l.left l.right (length l.initial.above) l.above l.row
