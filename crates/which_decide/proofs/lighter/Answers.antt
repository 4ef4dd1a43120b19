-- `which_decide::lighter` meets its contract, by its one test. Assumes nothing.
use Rattle.which_decide.specs.Answers.{standing}
use Rattle.which_decide.proofs.Laws.{second-stands, first-stands}
use Rattle.which_decide.proofs.lighter.Goals as goal

pub returns-then-below : goal.returns-then-below
unfolding standing
returns-then-below c = second-stands _ _ c.below.ensures c.if-below.true

pub returns : goal.returns
unfolding standing
returns c = first-stands _ _ c.below.ensures c.if-below.false
