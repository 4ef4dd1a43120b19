-- `breaking::around_rows` meets its contract in each of its four cases: the call is refused; a tree is built without the row; only with it; or not even so.
-- Assumes nothing.
use mathlib.Core.Path.{refl, ◌∙◌}
use Rattle.mst1.specs.Steps.Growth.{chosen_in}
use Rattle.rowset.specs.Integers.{from_bits}
use Rattle.slice.proofs.Laws.{written-false}
use Rattle.breaking.proofs.Answers.{call-refused, accepted-call, route-found, no-route, no-tree}
use Rattle.breaking.specs.Answers.{answer_of}
use Rattle.breaking.proofs.around_rows.Goals as goal

pub returns-in-Err : goal.returns-in-Err
unfolding answer_of chosen_in
returns-in-Err c = call-refused _ _ c.row_check.ensures c.in-Err.is

pub returns-in-Some : goal.returns-in-Some
unfolding answer_of from_bits chosen_in
returns-in-Some c =
    route-found _ _ (accepted-call _ _ c.row_check.ensures c.in_default.is) (c.put-others.ensures ∙ written-false _ _) c.in-Some.ensures refl

pub returns-then-is_none : goal.returns-then-is_none
unfolding answer_of chosen_in
returns-then-is_none c =
    rw c.of.ensures
    (no-tree _ _ (accepted-call _ _ c.row_check.ensures c.in_default.is) (c.put-others.ensures ∙ written-false _ _) c.in_default-tree_of.ensures refl c.tree_of-2.ensures c.if-is_none.ensures)

pub returns : goal.returns
unfolding answer_of chosen_in
returns c =
    no-route _ _ (accepted-call _ _ c.row_check.ensures c.in_default.is) (c.put-others.ensures ∙ written-false _ _) c.in_default-tree_of.ensures refl c.tree_of-2.ensures c.if-is_none.ensures
