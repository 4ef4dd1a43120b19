-- `stp_words::word_start` meets its contract. The loop's invariant: the gap leads to the same place from i on. Assumes nothing.
use Rattle.std.proofs.Common.{◌≡◌, ◌≤◌, length, drop}
use Rattle.stp_words.specs.Spans.{gap_from}
use Rattle.stp_words.proofs.word_start.Given as goal

abbrev pub invariant-loop-i : goal.invariant-loop-i
invariant-loop-i l = (l.i ≤ length l.text) × (gap_from l.i l.first (drop l.i l.text) ≡ gap_from l.at l.fn.first (drop l.at l.text))
