-- `mend::write_marks` meets its contract. The loop's invariant: the first i bytes are those of the mended claim, and the others as they were. Assumes nothing.
use Prim.Native.Nat.{◌-◌}
use lib.ListN.{length}
use Rattle.slice.specs.Slices.{component}
use Rattle.mend.proofs.Redrawn.{Redrawing}
use Rattle.mend.proofs.write_marks.Given as goal

abbrev pub invariant-loop-i : goal.invariant-loop-i
invariant-loop-i l = Redrawing l.initial.mark (component l.used) (component l.marks) l.mark l.i
