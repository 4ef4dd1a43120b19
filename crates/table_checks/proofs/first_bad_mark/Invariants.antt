-- `table_checks::first_bad_mark` meets its contract. The loop's invariant: none of the rows above row `at` has a byte other than 0 and 1.
-- Assumes nothing.
use Prim.Native.Nat.{◌+◌, ◌-◌, ◌≤◌}
use Rattle.rowset.specs.Words.{in_words}
use Rattle.star_spec.specs.Refusals.{wrong_byte}
use Rattle.table_checks.proofs.Laws.{Passed}
use Rattle.table_checks.proofs.first_bad_mark.Given as goal

abbrev pub invariant-loop-at : goal.invariant-loop-at
invariant-loop-at l = (1 ≤ l.at) × (l.at ≤ l.m + 1) × Passed (wrong_byte (in_words l.rows.words) l.mark) l.at
