-- `table_checks::count_marks` meets its contract. The loop's invariant: `marks` is the number of marked rows of 1 to i.
-- Assumes nothing.
use Prim.Native.Nat.{◌-◌, ◌≤◌}
use mathlib.Core.Path.{◌≡◌}
use Rattle.rowset.specs.Sets.{both, count}
use Rattle.rowset.specs.Words.{in_words}
use Rattle.star_spec.specs.Call.{marked}
use Rattle.table_checks.proofs.count_marks.Given as goal

abbrev pub invariant-loop-i : goal.invariant-loop-i
invariant-loop-i l = (l.i ≤ l.m) × (l.marks ≡ count l.i (both (in_words l.rows.words) (marked l.mark)))
