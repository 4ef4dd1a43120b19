-- `outlets_swaps::dearest_at` meets its contract: the path has a row at r, or it has none. Assumes nothing.
use Prim.Native.Nat.{ℕ}
use borrow.Author.Tests.{not-true}
use lib.IntN.{ℤ}
use mathlib.Core.Bool.{Bool, true, not}
use mathlib.Core.Path.{◌≡◌, sym, ◌∙◌}
use Rattle.outlets_kept.proofs.Kept.{none_out}
use Rattle.rowset.specs.Searches.{largest}
use Rattle.rowset.specs.Sets.{both, any, uppermost}
use Rattle.slice.specs.Slices.{size}
use Rattle.outlets_swaps.specs.Steps.Exchanges.{between}
use Rattle.outlets_swaps.proofs.dearest_at.Goals as goal

-- the rows X that are searched are those of the path and of the rows at r
module _ (w : ℕ → ℤ) (X p q here : ℕ → Bool) (both-are : X ≡ both p here) (path-is : p ≡ q) where
  found-out : (i : ℕ) → i ≡ uppermost size (largest size w X) → i ≡ uppermost size (largest size w (both q here))
  found-out i e = rw (← path-is, ← both-are) e

  -- where ZERO says that there is none
  zero-out : (b : Bool) → b ≡ not (any size X) → b ≡ true → 0 ≡ uppermost size (largest size w (both q here))
  zero-out b e t = found-out 0 (sym (none_out size w X (not-true (any size X) (sym e ∙ t))))

pub returns-then-zero : goal.returns-then-zero
unfolding between
returns-then-zero c = zero-out _ _ _ _ _ c.and-here.ensures c.path_of-path.ensures _ c.zero.ensures c.if-zero.true

pub returns : goal.returns
unfolding between
returns c = found-out _ _ _ _ _ c.and-here.ensures c.path_of-path.ensures _ c.heaviest.ensures
