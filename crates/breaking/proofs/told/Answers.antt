-- `breaking::told` meets its contract: the answer where there is no route, and else the price that the walk finds. Assumes nothing.
use mathlib.Core.Path.{refl}
use Rattle.mst1.specs.Steps.Growth.{chosen_in}
use Rattle.breaking.specs.Answers.{answer_of}
use Rattle.breaking.proofs.Answers.{answer-told, way-told}
use Rattle.breaking.proofs.told.Goals as goal

pub returns-in_default : goal.returns-in_default
unfolding chosen_in
returns-in_default c = rw c.in_default.is (answer-told _ _ _ _ _ _ refl)

pub returns : goal.returns
unfolding answer_of chosen_in
returns c =
    rw c.in-Some.is
    (way-told _ _ _ _ _ _ refl c.row_byte-u.ensures c.row_byte-v.ensures c.path_between-path.ensures c.heaviest_price.ensures)
