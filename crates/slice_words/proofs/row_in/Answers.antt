-- `slice_words::row_in` meets its contract. Assumes nothing.
use borrow.Author.Rules.{rules}
use native.Mathlib.Omega.{arith}
use Rattle.rowset.specs.Words.{in_words}
use Rattle.slice.proofs.Sets.{up_to-inside, up_to-outside}
use Rattle.slice.specs.Slices.{size}
use Rattle.slice_words.proofs.row_in.Goals as goal

pub returns-then-i-lt1 : goal.returns-then-i-lt1
unfolding in_words
returns-then-i-lt1 c = rw (up_to-outside size c.args.i c.then-i-lt1.either)

pub returns : goal.returns
unfolding in_words
returns c = let a = c.args in rw (up_to-inside size a.i (omega arith) (omega arith)) (search rules)
