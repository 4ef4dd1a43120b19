-- `slice_words::last_row` meets its contract. The loop's invariant: the words from k on are 0.
-- Assumes nothing.
use Prim.Native.Nat.{ℕ, ◌*◌, ◌<◌}
use mathlib.Core.Bool.{false}
use mathlib.Core.List.{List}
use mathlib.Core.Path.{◌≡◌}
use Rattle.rowset.specs.Words.{in_words}
use Rattle.slice_words.proofs.last_row.Given as goal

-- the words from k on have no component
abbrev pub Past : List ℕ → ℕ → Type 0
Past l k = (i : ℕ) → 64 * k < i → in_words l i ≡ false

abbrev pub invariant-loop-k : goal.invariant-loop-k
invariant-loop-k l = Past l.words l.k
