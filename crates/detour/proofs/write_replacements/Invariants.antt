-- `detour::write_replacements` meets its contract. The loop's invariant: the unmarked rows of x are left, the marked rows of y have no answer yet, and f is the next row. The measure is how many rows are left. Assumes nothing.
use Prim.Native.Nat.{ℕ, ◌≤◌}
use lib.ListN.{length}
use mathlib.Core.Bool.{true}
use mathlib.Core.Path.{◌≡◌}
use Rattle.rowset.specs.Sets.{count}
use Rattle.search_columns.specs.Steps.Integers.{integers_after}
use Rattle.slice.specs.Slices.{size, component}
use Rattle.detour_spec.specs.Detours.{number_at}
use Rattle.detour.proofs.Order.{Visited}
use Rattle.detour.specs.Steps.Machine.{next_in}
use Rattle.detour.proofs.write_replacements.Given as goal

abbrev pub invariant-loop-f : goal.invariant-loop-f
invariant-loop-f l =
    Visited (integers_after l.weights l.first) l.own l.left l.right (component l.initial.x) (component l.initial.y) l.initial.rows (component l.x) (component l.y) l.rows
    × (l.f ≡ next_in (integers_after l.weights l.first) (component l.x) (component l.y))
    × ((i : ℕ) → component l.initial.y i ≡ true → (i ≤ length l.initial.rows) × (number_at l.initial.rows i ≡ 0))

abbrev pub decreases-loop-f : goal.decreases-loop-f
decreases-loop-f l = count size (component l.x)
