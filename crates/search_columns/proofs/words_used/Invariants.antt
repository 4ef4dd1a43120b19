-- `search_columns::words_used` meets its contract. The loop's invariant: the words from k on are 0, so that the last that is not 0 is among the first k.
-- Assumes nothing.
use Prim.Native.Nat.{ℕ, ◌≤◌, ◌<◌}
use mathlib.Core.Path.{◌≡◌}
use lib.ListN.{get_or}
use Rattle.search_columns.specs.Steps.Rows.{last_word}
use Rattle.search_columns.proofs.words_used.Given as goal

abbrev pub invariant-loop-k : goal.invariant-loop-k
invariant-loop-k l = (l.k ≤ 16) × ((p : ℕ) → l.k ≤ p → p < 16 → get_or l.z p 0 ≡ 0) × (last_word l.z 16 ≡ last_word l.z l.k)

abbrev pub decreases-loop-k : goal.decreases-loop-k
decreases-loop-k l = l.k
