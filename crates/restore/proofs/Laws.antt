-- A row written in a slice. Assumes nothing.
use Prim.Native.Nat.{ℕ}
use mathlib.Core.Bool.{Bool, true}
use mathlib.Core.Path.{◌≡◌}
use Rattle.rowset.specs.Sets.{up_to, put}
use Rattle.slice.specs.Slices.{size, written}

pub written-true : (p : ℕ → Bool) (k : ℕ) → up_to size k ≡ true → written p k true ≡ put p k
unfolding written
written-true p k e = rw e
