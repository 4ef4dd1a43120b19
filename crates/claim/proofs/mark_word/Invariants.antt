-- `claim::mark_word` meets its contract. The loop's invariant: the word so far has the rows from row i + 1 on.
-- Assumes nothing.
use Rattle.std.proofs.Common.{◌≡◌, ◌+◌, ◌-◌, ◌≤◌, length}
use Rattle.rowset.specs.Words.{word_at}
use Rattle.star_spec.specs.Call.{marked}
use Rattle.claim.proofs.mark_word.Given as goal

abbrev pub invariant-loop-i : goal.invariant-loop-i
invariant-loop-i l = (l.first ≤ l.i) × (l.i ≤ l.first + 64) × (l.i ≤ length l.mark) × (l.word ≡ word_at (marked l.mark) l.i (l.first + 64 - l.i))
