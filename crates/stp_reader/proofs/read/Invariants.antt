-- `stp_reader::read` meets its contract. The loop's invariant: the reader stands before the word with what was read so far. The measure is what is left of the text from the word on.
-- Assumes nothing.
use Rattle.std.proofs.Common.{◌-◌, length}
use Rattle.stp_reader.proofs.Words.{Stands}
use Rattle.stp_reader.proofs.read.Given as goal

abbrev pub invariant-loop-word : goal.invariant-loop-word
invariant-loop-word l = Stands l.text l.table l.stand l.word

abbrev pub decreases-loop-word : goal.decreases-loop-word
decreases-loop-word l = length l.text - l.word.from
