-- `stp_words::digits_to` meets its contract. The loop's invariant: v is not too large, and what is left of the word, read after v, decides.
-- Assumes nothing.
use Rattle.std.proofs.Common.{◌≡◌, ◌≤◌, drop}
use Rattle.stp_words.specs.Numbers.{digits_to}
use Rattle.stp_words.proofs.Loops.{reading}
use Rattle.stp_words.proofs.digits_to.Given as goal

abbrev pub invariant-loop-b : goal.invariant-loop-b
invariant-loop-b l = (l.v ≤ l.most) × (reading l.most l.v (drop l.b-index l.word) ≡ digits_to l.most l.word)
