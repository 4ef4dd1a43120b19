-- `table::filled` meets its contract. The loop's invariant: the rows have the bytes from number k on.
-- Assumes nothing.
use mathlib.Core.Path.{◌≡◌}
use Rattle.table.specs.Tables.{row}
use Rattle.table.specs.Steps.Loading.{upper_bytes}
use Rattle.table.proofs.filled.Given as goal

abbrev pub invariant-loop-k : goal.invariant-loop-k
invariant-loop-k l = row l.t ≡ upper_bytes l.column l.count l.k
