-- `mst1::mst1` meets its contract in each of its three cases: the table is refused, there is no tree, or a tree is built.
-- Assumes nothing.
use mathlib.Core.Path.{refl, ◌∙◌}
use Rattle.refusal.proofs.Passed.{handed-on}
use Rattle.mst1.proofs.Answers.{table-refused, tree-refused, tree-built}
use Rattle.mst1.specs.Answers.{answer_of}
use Rattle.mst1.specs.Steps.Growth.{chosen_in}
use Rattle.mst1.proofs.mst1.Goals as goal

pub returns-in_err-table_check : goal.returns-in_err-table_check
unfolding answer_of
returns-in_err-table_check c = rw (handed-on _ c.from_residual.ensures.1) (table-refused _ c.table_check.ensures c.in_err-table_check.was)

pub returns-in_default : goal.returns-in_default
unfolding answer_of chosen_in
returns-in_default c = rw c.of.ensures (tree-refused _ c.table_check.ensures c.in_ok-table_check.was c.in_default.ensures refl)

pub returns : goal.returns
unfolding answer_of chosen_in
returns c =
    let (answer, marks) = tree-built _ c.table_check.ensures c.in_ok-table_check.was c.in-Some.ensures refl _ c.weigh.ensures in
    (answer, c.write_claim.ensures ∙ marks)
