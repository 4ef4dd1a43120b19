-- `answer::well_lent` meets its contract. Assumes nothing.
use borrow.Author.Rules.{rules}
use Rattle.star_spec.specs.Door.{well_lent}
use Rattle.answer.proofs.well_lent.Goals as goal

pub returns : goal.returns
unfolding well_lent
returns c = search rules
