-- `cst::first_found` meets its contract. The loop's invariant: the columns read hold the weights, as many last bits of a row stand for its weight, and the rows that STEP has left are those still to be
-- looked at (`Looking`), said of every set that STEP could have begun with. The measure is how far row `at` is from the end, 0 where STEP found none. Assumes nothing.
use Prim.Native.Nat.{ℕ, ◌-◌, ◌%◌}
use mathlib.Core.Bool.{Bool}
use mathlib.Core.Path.{◌≡◌}
use lib.ListN.{length}
use Rattle.rowset.specs.Bytes.{in_row}
use Rattle.rowset.specs.Columns.{width}
use Rattle.rowset.specs.Integers.{from_bits}
use Rattle.rowset.specs.Sets.{uppermost, take_out}
use Rattle.rowset.specs.Words.{in_words}
use Rattle.slice.specs.Slices.{size}
use Rattle.cst.proofs.Looking.{Looking}
use Rattle.search_columns.specs.Steps.Integers.{integers_after}
use Rattle.cst.specs.Steps.Paths.{weight_in}
use Rattle.cst.proofs.first_found.Given as goal

abbrev pub invariant-loop-at : goal.invariant-loop-at
invariant-loop-at l =
    (integers_after l.weights l.first ≡ weight_in l.weight)
    × ((k : ℕ) → from_bits (width - l.first) (in_row 4 l.weight k) ≡ weight_in l.weight k)
    × ((rows : ℕ → Bool) → l.initial.at ≡ uppermost size rows → in_words l.initial.rest ≡ take_out rows (uppermost size rows) → Looking l.matrix l.left l.right l.weight rows (in_words l.rest) l.at l.into)
    × (length l.rest ≡ 16)

abbrev pub decreases-loop-at : goal.decreases-loop-at
decreases-loop-at l = (1025 - l.at) % 1025
