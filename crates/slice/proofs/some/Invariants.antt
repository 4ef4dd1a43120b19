-- `slice::some` meets its contract. The loop's invariant: if `joined` is 0, no component in the words below `k` is 1, and otherwise some component is.
-- Assumes nothing.
use Prim.Native.Nat.{ℕ, ◌<◌, ◌≤◌}
use mathlib.Core.Bool.{true}
use mathlib.Core.Path.{◌≡◌}
use Rattle.rowset.specs.Sets.{any}
use Rattle.slice.specs.Slices.{size, component}
use Rattle.slice.specs.declared.Slice.{Slice}
use Rattle.slice.proofs.Laws.{Clear}
use Rattle.slice.proofs.some.Given as goal

-- what the words below k joined, w, say of the components of x
pub record Joined (x : Slice) (w k : ℕ) : Type 0 where
  pub most : k ≤ 16
  pub clear : w ≡ 0 → Clear x k
  pub found : 0 < w → any size (component x) ≡ true

abbrev pub invariant-loop-w : goal.invariant-loop-w
invariant-loop-w l = Joined l.fn.x l.joined l.w-index
