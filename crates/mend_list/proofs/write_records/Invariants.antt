-- The loop's invariant: the first k records are stored. Assumes nothing.
use Rattle.std.proofs.Common.{◌≡◌}
use Rattle.mend_list.specs.Steps.Stored.{stored_to}
use Rattle.mend_list.proofs.write_records.Given as goal

abbrev pub invariant-loop-k : goal.invariant-loop-k
invariant-loop-k l = l.records ≡ stored_to l.k l.list l.initial.records
