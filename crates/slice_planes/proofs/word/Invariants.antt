-- `slice_planes::word` meets its contract. The loop's invariant: the word so far is that of the blocks from g on.
-- Assumes nothing.
use mathlib.Core.Path.{◌≡◌}
use Rattle.slice_planes.proofs.Words.{word_from}
use Rattle.slice_planes.proofs.word.Given as goal

abbrev pub invariant-loop-g : goal.invariant-loop-g
invariant-loop-g l = l.word ≡ word_from l.blocks l.k 8 l.g
