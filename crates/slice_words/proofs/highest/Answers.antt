-- `slice_words::highest` meets its contract. Assumes nothing.
use Prim.Native.Nat.{ℕ, suc, ◌/◌, ◌%◌, ◌^◌, ◌<◌, ◌≤◌}
use lib.Dec.{eqb}
use lib.Pow.{pow_mono}
use mathlib.Core.Bool.{true, false}
use mathlib.Core.Path.{◌≡◌, ap}
use native.Mathlib.Nat.{div-eq_of_lt, div-eq_of_lt-le, pow-suc}
use native.Mathlib.Omega.{arith}
use Rattle.slice.specs.Slices.{bit}
use Rattle.slice_words.proofs.highest.Goals as goal

-- a number of j + 1 bits whose highest is 1
top_bit : (w j : ℕ) → 2 ^ j ≤ w → w < 2 ^ suc j → bit w j ≡ true
unfolding bit
top_bit w j low high =
    let one : w / 2 ^ j ≡ 1 = div-eq_of_lt-le {k = 1} (2 ^ j) (omega arith) (omega (arith, pow-suc 2 j)) in
    ap (λ (a : ℕ). eqb (a % 2) 1) one

-- it has no bit above
bits_above : (w j i : ℕ) → w < 2 ^ suc j → j < i → bit w i ≡ false
unfolding bit
bits_above w j i high l = let small : w < 2 ^ i = omega (arith, pow_mono {i = suc j} {j = i} l) in rw (div-eq_of_lt small)

pub returns : goal.returns
returns c =
    let e = c.ilog2.ensures in
    let above : c.args.w < 2 ^ suc c.ilog2.result = omega (arith, e.next_power_gt, pow-suc 2 c.ilog2.result) in
    (e.bound, top_bit _ _ e.power_le above, λ j l. bits_above _ _ j above l)
