-- `file_text::front` meets its contract. Assumes nothing.
use mathlib.Core.Path.{◌≡◌}
use Rattle.file_spec.specs.Pieces.{front_trimmed}
use Rattle.file_text.specs.Steps.Spans.{part}
use Rattle.file_text.proofs.front.Given as goal

abbrev pub invariant-loop-i : goal.invariant-loop-i
invariant-loop-i l = front_trimmed l.i (part l.text l.i l.to) ≡ front_trimmed l.from (part l.text l.from l.to)
