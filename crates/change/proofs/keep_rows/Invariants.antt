-- `change::keep_rows` meets its contract. The loop's invariant: of the bytes before b those that belong stand at the top, and the bytes from b on are as they were.
-- Assumes nothing.
use Rattle.slice.specs.Slices.{component}
use Rattle.change_spec.specs.Packing.{of_rows}
use Rattle.change.proofs.Loops.{Keeping}
use Rattle.change.proofs.keep_rows.Given as goal

abbrev pub invariant-loop-b : goal.invariant-loop-b
invariant-loop-b l = Keeping (of_rows (component l.x) l.width) l.initial.column l.column l.kept l.b
