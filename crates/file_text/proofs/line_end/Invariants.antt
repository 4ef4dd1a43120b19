-- `file_text::line_end` meets its contract. Assumes nothing.
use Prim.Native.Nat.{◌≤◌, max}
use lib.ListN.{length}
use mathlib.Core.Path.{◌≡◌}
use Rattle.file_spec.specs.Pieces.{ends_line, first_at}
use Rattle.file_text.specs.Steps.Spans.{part}
use Rattle.file_text.proofs.line_end.Given as goal

abbrev pub invariant-loop-i : goal.invariant-loop-i
invariant-loop-i l = (l.i ≤ max l.at (length l.text)) × (first_at ends_line l.i (part l.text l.i (length l.text)) ≡ first_at ends_line l.at (part l.text l.at (length l.text)))
