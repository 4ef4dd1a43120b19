-- `table_loads::put_bytes` meets its contract. The loop's invariant: the bytes before `offset` are stored. Assumes nothing.
use Prim.Native.Nat.{◌≤◌}
use mathlib.Core.Path.{◌≡◌}
use Rattle.table_loads.specs.Steps.Stores.{with_bytes}
use Rattle.table_loads.proofs.put_bytes.Given as goal

abbrev pub invariant-loop-offset : goal.invariant-loop-offset
invariant-loop-offset l = (l.offset ≤ l.stride) × (l.columns ≡ with_bytes l.initial.columns l.column l.stride l.q l.offset)
