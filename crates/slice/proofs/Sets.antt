-- Laws of the positions 1 to m that the proofs of slices need. They speak of sets alone. Assumes nothing.
use Prim.Native.Nat.{ℕ, ◌<◌, ◌≤◌}
use mathlib.Core.Path.{◌≡◌, ap, ◌∙◌}
use mathlib.Core.Bool.{Bool, true, false, ◌&&◌, and-false}
use mathlib.Core.Logic.{◌⊎◌, inl, inr}
use lib.Dec.{leb}
use borrow.Author.Tests.{lt-leb}
use Rattle.rowset.specs.Sets.{up_to}
use Rattle.rowset.proofs.Laws.{in-up_to, up_to-in}

-- a position of 1 to m, one before 1, and one past m
pub up_to-inside : (m i : ℕ) → 1 ≤ i → i ≤ m → up_to m i ≡ true
up_to-inside = in-up_to

pub up_to-bounds : (m i : ℕ) → up_to m i ≡ true → (1 ≤ i) × (i ≤ m)
up_to-bounds = up_to-in

pub up_to-below : (m i : ℕ) → i < 1 → up_to m i ≡ false
unfolding up_to
up_to-below m i h = ap (λ (b : Bool). b && leb i m) (lt-leb 1 i h)

pub up_to-above : (m i : ℕ) → m < i → up_to m i ≡ false
unfolding up_to
up_to-above m i h = ap (λ (b : Bool). leb 1 i && b) (lt-leb i m h) ∙ and-false (leb 1 i)

-- a position before 1 or past m, as `i < 1 || m < i` tells it
pub up_to-outside : (m i : ℕ) → (i < 1) ⊎ ((1 ≤ i) × (m < i)) → up_to m i ≡ false
up_to-outside m i (inl h) = up_to-below m i h
up_to-outside m i (inr h) = up_to-above m i h.1
