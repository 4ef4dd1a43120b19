-- `detour::put_each` meets its contract. The loop's invariant: the number stands at the rows of the slice that are not left, and k is the uppermost that is. The measure is how many are left. Assumes nothing.
use Prim.Native.Nat.{ℕ, ◌≤◌}
use lib.ListN.{length}
use mathlib.Core.Bool.{true}
use mathlib.Core.Path.{◌≡◌}
use Rattle.rowset.specs.Sets.{count, uppermost}
use Rattle.slice.specs.Slices.{size, component}
use Rattle.detour.proofs.Columns.{Putting}
use Rattle.detour.proofs.put_each.Given as goal

abbrev pub invariant-loop-k : goal.invariant-loop-k
invariant-loop-k l = Putting (component l.initial.rest) (component l.rest) l.number l.initial.rows l.rows × (l.k ≡ uppermost size (component l.rest)) × ((i : ℕ) → component l.initial.rest i ≡ true → i ≤ length l.initial.rows)

abbrev pub decreases-loop-k : goal.decreases-loop-k
decreases-loop-k l = count size (component l.rest)
