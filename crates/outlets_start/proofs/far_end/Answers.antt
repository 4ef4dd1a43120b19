-- `outlets_start::far_end` meets its contract: the left end is in the fragment, or it is not. Assumes nothing.
use Prim.Native.Nat.{ℕ}
use mathlib.Core.Bool.{Bool, true, false, cond}
use mathlib.Core.Path.{◌≡◌}
use Rattle.outlets_start.proofs.far_end.Goals as goal

right_end : (b : Bool) (v x y : ℕ) → b ≡ true → v ≡ x → v ≡ cond b x y
right_end b v x y e q = rw e q

left_end : (b : Bool) (v x y : ℕ) → b ≡ false → v ≡ y → v ≡ cond b x y
left_end b v x y e q = rw e q

pub returns-then-ahead : goal.returns-then-ahead
returns-then-ahead c = right_end _ _ _ _ c.if-ahead.true c.end_at.ensures.end

pub returns : goal.returns
returns c = left_end _ _ _ _ c.if-ahead.false c.end_at-2.ensures.end
