-- `file_reader::read_lines` meets its contract. The loop's invariant: reading on from what is read so far gives the same. Assumes nothing.
use Prim.Native.Nat.{◌-◌, ◌≤◌}
use lib.ListN.{length}
use mathlib.Core.Path.{◌≡◌}
use Rattle.file_spec.specs.Pieces.{lines}
use Rattle.file_text.specs.Steps.Spans.{part}
use Rattle.file_spec.specs.Reader.{read_lines}
use Rattle.file_reader.specs.Steps.State.{read_of, Sized, Columns, Sound}
use Rattle.file_reader.proofs.read_lines.Given as goal

abbrev pub invariant-loop-l : goal.invariant-loop-l
invariant-loop-l l = record {
  within : l.at ≤ length l.text;
  sized : Sized l.found l.starts l.ends × Columns l.left l.right l.weight l.mark l.struck l.rows;
  sound : Sound l.text l.found l.starts l.ends;
  same : read_lines (read_of l.text l.initial.found l.initial.starts l.initial.ends l.initial.left l.initial.right l.initial.weight l.initial.mark l.initial.struck l.initial.rows) (lines l.from (part l.text l.from (length l.text)))
      ≡ read_lines (read_of l.text l.found l.starts l.ends l.left l.right l.weight l.mark l.struck l.rows) (lines l.at (part l.text l.at (length l.text)));
}

abbrev pub decreases-loop-l : goal.decreases-loop-l
decreases-loop-l l = length l.text - l.at
