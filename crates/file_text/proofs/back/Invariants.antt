-- `file_text::back` meets its contract. Assumes nothing.
use Prim.Native.Nat.{◌≤◌}
use mathlib.Core.Path.{◌≡◌}
use Rattle.file_spec.specs.Pieces.{back_trimmed}
use Rattle.file_text.specs.Steps.Spans.{part}
use Rattle.file_text.proofs.back.Given as goal

abbrev pub invariant-loop-i : goal.invariant-loop-i
invariant-loop-i l = (l.from ≤ l.i) × (l.i ≤ l.to) × (back_trimmed (part l.text l.from l.i) ≡ back_trimmed (part l.text l.from l.to))
