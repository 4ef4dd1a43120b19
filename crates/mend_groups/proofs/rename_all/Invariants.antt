-- `mend_groups::rename_all` meets its contract. The loop's invariant: the labels before the index are renamed, and the others as they were.
-- Assumes nothing.
use Rattle.mend_groups.proofs.Groups.{Renaming}
use Rattle.mend_groups.proofs.rename_all.Given as goal

abbrev pub invariant-loop-label : goal.invariant-loop-label
invariant-loop-label l = Renaming l.initial.labels l.x l.y l.labels l.label-index
