-- `outlets_exact::reduce` meets its contract, by the number of rows at r. Assumes nothing.
use mathlib.Core.Path.{refl, ◌∙◌, ap}
use Rattle.mst1.specs.Steps.Growth.{chosen_in}
use Rattle.rowset.specs.Sets.{count}
use Rattle.slice.specs.Slices.{size}
use Rattle.outlets_exact.proofs.Makes.{reduced-none, reduced-whole, reduced-made}
use Rattle.outlets_exact.proofs.reduce.Goals as goal

pub returns-then-have-least : goal.returns-then-have-least
unfolding chosen_in
returns-then-have-least c =
    reduced-none _ _ _ _ _ _ _ (c.count_rows-have.ensures ∙ ap (count size) c.and.ensures) c.if-have-least.true refl refl

pub returns-then-have-least-2 : goal.returns-then-have-least-2
unfolding chosen_in
returns-then-have-least-2 c =
    reduced-whole _ _ _ _ _ _ _ (c.count_rows-have.ensures ∙ ap (count size) c.and.ensures) c.if-have-least-2.true refl refl

pub returns : goal.returns
returns c =
    reduced-made _ _ _ _ _ _ _ (c.count_rows-have.ensures ∙ ap (count size) c.and.ensures) c.if-have-least.false _ _ _ c.without-away.ensures c.forest_of-forest.ensures c.walk.ensures.words c.reduce.ensures.left
