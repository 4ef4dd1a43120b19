-- The 64 bits that stand for the integer of 32 bits: below 2 ^ 31 the same number, and from there on with the upper half all ones.
-- Assumes nothing.
use Prim.Native.Nat.{ℕ, ◌+◌, ◌*◌, ◌≤◌, ◌<◌}
use borrow.Author.Tests.{le-ltb}
use lib.IntN.{pos, ◌-ℤ◌}
use mathlib.Core.Path.{◌≡◌, sym, ◌∙◌}
use native.Mathlib.Omega.{arith}
use Rattle.rowset.proofs.Integers.{integers, pos-parts, minus}
use Rattle.rowset.proofs.Signed.{natural-bits, small-bits}
use Rattle.rowset.specs.Integers.{from_bits, signed}

pub widened-low : (x : ℕ) → x < 2147483648 → from_bits 64 x ≡ signed x
widened-low x h = natural-bits 63 x (omega arith) ∙ sym (natural-bits 31 x (omega arith))

pub widened-high : (x : ℕ) → 2147483648 ≤ x → x < 4294967296 → from_bits 64 (x + 18446744069414584320) ≡ signed x
widened-high x l h =
    let wide : from_bits 64 (x + 18446744069414584320) ≡ pos (x + 18446744069414584320) -ℤ pos 18446744073709551616 = small-bits 64 (x + 18446744069414584320) (omega arith) ∙ rw (le-ltb (2 * (x + 18446744069414584320)) 18446744073709551616 (omega arith)) in
    let narrow : signed x ≡ pos x -ℤ pos 4294967296 = small-bits 32 x (omega arith) ∙ rw (le-ltb (2 * x) 4294967296 (omega arith)) in
    wide
    ∙ omega (arith, integers, minus (pos (x + 18446744069414584320)) (pos 18446744073709551616), minus (pos x) (pos 4294967296), pos-parts (x + 18446744069414584320), pos-parts 18446744073709551616, pos-parts x, pos-parts 4294967296)
    ∙ sym narrow
