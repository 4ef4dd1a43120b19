-- `file_door::star_line_of` meets its contract. The loop's invariant: the line, counted on over the bytes that are left, is the place's. Assumes nothing.
use Prim.Native.Nat.{◌+◌, ◌-◌, ◌≤◌}
use lib.ListN.{length, take, drop}
use mathlib.Core.Path.{◌≡◌}
use Rattle.file_spec.specs.Places.{line_from, line_at}
use Rattle.file_door.proofs.star_line_of.Given as goal

abbrev pub invariant-loop-k : goal.invariant-loop-k
invariant-loop-k l = (l.end ≤ length l.text) × (l.end ≤ 4294967295) × (l.line ≤ l.k + 1) × (line_at l.text l.place ≡ line_from l.after l.line (drop l.k (take l.end l.text)))
