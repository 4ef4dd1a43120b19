-- `digs::table_list` meets its contract in each of its three cases: the table is refused, there is no tree, or a tree is listed. Assumes nothing.
use mathlib.Core.Path.{refl}
use Rattle.digs.proofs.Laws.{table-refused, tree-refused, tree-listed}
use Rattle.digs.specs.Lists.{Lists}
use Rattle.mst1.specs.Steps.Growth.{chosen_in}
use Rattle.refusal.proofs.Passed.{handed-on}
use Rattle.digs.proofs.table_list.Goals as goal

pub returns-in_err-table_check : goal.returns-in_err-table_check
unfolding Lists
returns-in_err-table_check c = rw (handed-on _ c.from_residual.ensures.1) (table-refused _ c.table_check.ensures c.in_err-table_check.was, refl)

pub returns-in_default : goal.returns-in_default
unfolding Lists chosen_in
returns-in_default c = rw c.of.ensures (tree-refused _ c.table_check.ensures c.in_ok-table_check.was c.in_default.ensures refl, refl)

pub returns : goal.returns
unfolding Lists chosen_in
returns c = tree-listed _ c.table_check.ensures c.in_ok-table_check.was c.in-Some.ensures refl c.put_list.ensures
