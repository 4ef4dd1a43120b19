-- `cst::exchange_of` meets its contract: both rows fit 32 bits, and the difference of their flipped weights, which is that of their weights, does not wrap. Assumes nothing.
use Prim.Native.Nat.{ℕ, ◌-◌, ◌≤◌}
use lib.IntN.{nat_abs, ◌-ℤ◌}
use lib.Signed.{◌≤ℤ◌}
use mathlib.Core.Path.{◌≡◌}
use native.Mathlib.Omega.{arith}
use Rattle.rowset.proofs.Integers.{integers, difference, minus, pos-parts}
use Rattle.rowset.proofs.Signed.{signed_parts}
use Rattle.rowset.specs.Integers.{signed}
use Rattle.rowset.specs.Steps.Flipped.{flipped}
use Rattle.cst.specs.Steps.Paths.{exchange_of}
use Rattle.cst.proofs.exchange_of.Goals as goal

-- the order of two weights, and their difference, by the flipped ones
flipped-most : (x y : ℕ) → signed y ≤ℤ signed x → flipped y ≤ flipped x
flipped-most x y h = omega (arith, integers, h, signed_parts x, signed_parts y)

flipped-difference : (x y : ℕ) → signed y ≤ℤ signed x → flipped x - flipped y ≡ nat_abs (signed x -ℤ signed y)
flipped-difference x y h =
    omega (
      arith,
      integers,
      h,
      difference (signed x) (signed y) h,
      minus (signed x) (signed y),
      pos-parts (nat_abs (signed x -ℤ signed y)),
      signed_parts x,
      signed_parts y,
    )

pub overflow_sub-result : goal.overflow_sub-result
overflow_sub-result c = rw (c.flipped_weight-2.ensures, c.flipped_weight.ensures) (flipped-most _ _ c.requires.2)

pub returns : goal.returns
unfolding exchange_of
returns c = rw (c.flipped_weight-2.ensures, c.flipped_weight.ensures, flipped-difference _ _ c.requires.2)
