-- `table::append` meets its contract. The loop's invariant: the columns before index j are right. Assumes nothing.
use Prim.Native.Nat.{suc}
use mathlib.Core.Path.{◌≡◌}
use Rattle.slice.specs.Slices.{component}
use Rattle.slice.proofs.Stores.{Filled}
use Rattle.table.specs.Tables.{blank}
use Rattle.table.proofs.Loads.{moved}
use Rattle.table.proofs.append.Given as goal

abbrev pub invariant-loop-j : goal.invariant-loop-j
invariant-loop-j l = Filled 32 blank (λ j x. component x ≡ moved l.t l.p (suc j)) l.r.columns l.j
