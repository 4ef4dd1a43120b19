-- `slice_words::count_rows` meets its contract. The loop's invariant: `count` is the number of rows in the words before this one.
-- Assumes nothing.
use Prim.Native.Nat.{◌*◌}
use mathlib.Core.Path.{◌≡◌}
use Rattle.rowset.specs.Sets.{count}
use Rattle.slice.specs.Slices.{component}
use Rattle.slice_words.proofs.count_rows.Given as goal

abbrev pub invariant-loop-word : goal.invariant-loop-word
invariant-loop-word l = l.count ≡ count (64 * l.word-index) (component l.fn.x)
