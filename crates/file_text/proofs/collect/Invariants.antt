-- `file_text::collect` meets its contract. The loop's invariant: the fields collected and those ahead are all. Assumes nothing.
use Prim.Native.Nat.{◌-◌, ◌≤◌}
use mathlib.Core.List.{List, ◌++◌}
use mathlib.Core.Path.{◌≡◌}
use Rattle.file_text.specs.Steps.Collected.{Collected}
use Rattle.file_spec.specs.Pieces.{Piece, parted}
use Rattle.file_text.specs.Steps.Spans.{piece_at}
use Rattle.file_text.proofs.Fielding.{kept, ahead}
use Rattle.file_text.proofs.collect.Given as goal

abbrev pub invariant-loop-x : goal.invariant-loop-x
invariant-loop-x l =
    (l.at ≤ l.to)
    × (l.x.seen ≤ l.at)
    × ((fs : List Piece) × Collected l.text fs l.x × (fs ++ ahead l.text l.to l.sep l.at ≡ kept l.sep (parted l.sep (piece_at l.text l.from l.to))))

abbrev pub decreases-loop-x : goal.decreases-loop-x
decreases-loop-x l = l.to - l.at
