-- `answer::write_answer` meets its contract. The loop's invariant: the first i bytes of the answer are those of the array.
-- Assumes nothing.
use Prim.Native.Nat.{◌≤◌, ◌-◌}
use lib.ListN.{length, take}
use mathlib.Core.Path.{◌≡◌}
use Rattle.answer.proofs.write_answer.Given as goal

abbrev pub invariant-loop-i : goal.invariant-loop-i
invariant-loop-i l = (l.i ≤ 16) × (length l.answer ≡ 16) × (length l.bytes ≡ 16) × (take l.i l.answer ≡ take l.i l.bytes)
