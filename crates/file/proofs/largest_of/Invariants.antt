-- `file::largest_of` meets its contract. The loop's invariant: the largest byte is the larger of what was found and of what is left. Assumes nothing.
use Prim.Native.Nat.{max}
use lib.ListN.{drop}
use mathlib.Core.Path.{◌≡◌}
use Rattle.file_spec.specs.Reader.{largest}
use Rattle.file.proofs.largest_of.Given as goal

abbrev pub invariant-loop-k : goal.invariant-loop-k
invariant-loop-k l = largest l.column ≡ max l.most (largest (drop l.k l.column))
