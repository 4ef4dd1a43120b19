-- `mend_groups::rename_all` meets its contract. The loop's invariant: the labels before the index are renamed, and the others as they were.
-- Assumes nothing.
use native.Mathlib.Omega.{arith}
use Rattle.mend_groups.proofs.Groups.{renamed-same, renamed-other, renaming-none, renaming-more, renaming-all}
use Rattle.mend_groups.proofs.rename_all.Goals as goal
use Rattle.mend_groups.proofs.rename_all.Goals.{then-label-x, else-label-x}

pub loop-label-init : goal.loop-label-init
loop-label-init c = renaming-none _ _ _

pub loop-label-preserved : goal.loop-label-preserved
loop-label-preserved c =
    let l = c.loop-label in
    elim c.if-label-x.branch [
      | then-label-x w ↦ rw w.label-is (renaming-more _ _ _ _ _ _ (omega arith) (renamed-same _ _ _ w.if-label-x.true) l.invariant)
      | else-label-x w ↦ rw w.label-is (renaming-more _ _ _ _ _ _ (omega arith) (renamed-other _ _ _ w.if-label-x.false) l.invariant)
    ]

pub returns : goal.returns
returns c = renaming-all _ _ _ _ _ (omega (arith, c.loop-label.invariant.size)) c.loop-label.invariant
