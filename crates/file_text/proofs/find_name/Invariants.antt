-- `file_text::find_name` meets its contract. The loop's invariant: the names before k are others, so that the position is k and what is found from k on. Assumes nothing.
use Prim.Native.Nat.{◌+◌, ◌-◌}
use mathlib.Core.Path.{◌≡◌}
use Rattle.file_spec.specs.Names.{position}
use Rattle.file_text.specs.Steps.Spans.{part, names_from, names_of}
use Rattle.file_text.proofs.find_name.Given as goal

abbrev pub invariant-loop-k : goal.invariant-loop-k
invariant-loop-k l =
    position (part l.text l.from l.to) (names_of l.text l.starts l.ends l.count) ≡ l.k + position (part l.text l.from l.to) (names_from l.text l.starts l.ends l.k (l.count - l.k))
