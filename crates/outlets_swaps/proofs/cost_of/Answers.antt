-- `outlets_swaps::cost_of` meets its contract: there is a row to go out, or there is none. Assumes nothing.
use Prim.Native.Nat.{ℕ, zero, suc, ◌+◌, ◌-◌}
use mathlib.Core.Path.{◌≡◌, refl}
use Rattle.outlets_kept.specs.Steps.Offers.{cost_of}
use Rattle.outlets_swaps.proofs.cost_of.Goals as goal

some-cost : (price : ℕ → ℕ) (f e x y : ℕ) → (e ≡ 0 → ⊥) → x ≡ price f → y ≡ price e → (4294967296 + x) - y ≡ cost_of price f e
unfolding cost_of
some-cost price f zero x y h p q = absurd (h refl)
some-cost price f (suc j) x y h p q = rw (p, q)

pub returns-then-e-eq0 : goal.returns-then-e-eq0
unfolding cost_of
returns-then-e-eq0 c = rw c.if-e-eq0.true

pub returns : goal.returns
returns c = some-cost _ _ _ _ _ c.if-e-eq0.false c.flipped_weight-above.ensures c.flipped_weight-below.ensures
