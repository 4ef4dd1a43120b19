-- `file_write_checks::longest` meets its contract. Assumes nothing.
use Prim.Native.Nat.{◌≤◌}
use mathlib.Core.Path.{◌≡◌}
use Rattle.file_write_checks.specs.Checks.{longest_to}
use Rattle.file_write_checks.proofs.longest.Given as goal

abbrev pub invariant-loop-k : goal.invariant-loop-k
invariant-loop-k l = (l.most ≡ longest_to l.starts l.ends l.k) × (l.most ≤ 4294967295)
