-- `search_great::turned_bits` meets its contract: half is 2 ^ k, where k + 1 columns are read.
-- Assumes nothing.
use Prim.Native.Nat.{suc, ◌-◌, ◌*◌, ◌%◌, ◌^◌}
use mathlib.Core.Path.{◌≡◌}
use native.Mathlib.Nat.{mod-le}
use native.Mathlib.Omega.{arith}
use Rattle.search_great.proofs.Signs.{half-fits, half_is, low-digits, high-digits}
use Rattle.search_great.specs.Steps.Column.{turned_bits}
use Rattle.search_great.proofs.turned_bits.Goals as goal

pub returns-then-first-ge-WIDTH : goal.returns-then-first-ge-WIDTH
unfolding turned_bits
returns-then-first-ge-WIDTH c = let e : 32 - c.args.first ≡ 0 = omega arith in rw e

-- half is 2 ^ n, at most 2 ^ 31
pub overflow_mul-y : goal.overflow_mul-y
overflow_mul-y c = omega (arith, half-fits (31 - c.args.first) (omega arith))

pub nonzero_rem-y : goal.nonzero_rem-y
nonzero_rem-y c = omega (arith, half-fits (31 - c.args.first) (omega arith))

pub overflow_add-result : goal.overflow_add-result
overflow_add-result c = omega (arith, half-fits (31 - c.args.first) (omega arith), c.if-y-half.true)

pub overflow_cast-result : goal.overflow_cast-result
overflow_cast-result c = omega (arith, half-fits (31 - c.args.first) (omega arith), c.if-y-half.true)

pub overflow_cast-result-else-y-half : goal.overflow_cast-result-else-y-half
overflow_cast-result-else-y-half c =
    omega (arith, c.ranges.w, mod-le c.args.w (2 * ((1 * 2 ^ (31 - c.args.first)) % 18446744073709551616)))

pub returns-then-y-half : goal.returns-then-y-half
returns-then-y-half c =
    let n = 31 - c.args.first in
    let e : 32 - c.args.first ≡ suc n = omega arith in
    rw e (low-digits n c.args.w _ (half_is n (omega arith)) c.if-y-half.true)

pub returns-else-y-half : goal.returns-else-y-half
returns-else-y-half c =
    let n = 31 - c.args.first in
    let e : 32 - c.args.first ≡ suc n = omega arith in
    rw e (high-digits n c.args.w _ (half_is n (omega arith)) c.if-y-half.false)
