-- `file_write_checks::names_check` meets its contract. The loop's invariant: none of the names before name k has a fault. Assumes nothing.
use Prim.Native.Nat.{◌+◌, ◌≤◌}
use lib.ListN.{length}
use Rattle.file_write_checks.specs.Checks.{name_fault}
use Rattle.file_write_checks.proofs.Laws.{Clear}
use Rattle.file_write_checks.proofs.names_check.Given as goal

abbrev pub invariant-loop-k : goal.invariant-loop-k
invariant-loop-k l = (1 ≤ l.k) × (l.k ≤ length l.starts + 1) × Clear (name_fault l.s l.text l.starts l.ends) l.k
