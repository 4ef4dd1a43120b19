-- The call on a table of either kind, by the value that says which of its rows are in use. Assumes nothing.
use Rattle.std.specs.Prelude.{ℕ, List}
use Rattle.slice.specs.Slices.{component}
use Rattle.star_spec.specs.Call.{Call, table_of}
use Rattle.in_use.specs.declared.InUse.{InUse}

abbrev pub table_in : ℕ → InUse → (left right weight mark : List ℕ) → Call
table_in n t = table_of n t.m t.whole (component t.rows)
