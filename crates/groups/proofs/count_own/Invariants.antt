-- `groups::count_own` meets its contract. The loop's invariant: `total` is the number of vertices of 1 to v that have their own label.
-- Assumes nothing.
use Prim.Native.Nat.{◌≤◌}
use lib.Dec.{eqb}
use mathlib.Core.Path.{◌≡◌}
use Rattle.rowset.specs.Bytes.{in_row}
use Rattle.rowset.specs.Sets.{count}
use Rattle.groups.proofs.count_own.Given as goal

abbrev pub invariant-loop-v : goal.invariant-loop-v
invariant-loop-v l = (l.total ≤ l.v) × (l.total ≡ count l.v (λ k. eqb (in_row 1 l.labels k) k))
