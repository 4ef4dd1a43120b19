-- `file_text::find_byte` meets its contract. Assumes nothing.
use mathlib.Core.Path.{◌≡◌}
use Rattle.file_spec.specs.Pieces.{is_byte, first_at}
use Rattle.file_text.specs.Steps.Spans.{part}
use Rattle.file_text.proofs.find_byte.Given as goal

abbrev pub invariant-loop-i : goal.invariant-loop-i
invariant-loop-i l = first_at (is_byte l.b) l.i (part l.text l.i l.to) ≡ first_at (is_byte l.b) l.from (part l.text l.from l.to)
