-- `slice_words::lowest` meets its contract. Assumes nothing.
use lib.Count.{trailing_le}
use native.Mathlib.Omega.{arith}
use Rattle.slice.proofs.Bits.{bit-below-trailing, bit-at-trailing}
use Rattle.slice_words.proofs.lowest.Goals as goal

pub overflow_cast-result : goal.overflow_cast-result
overflow_cast-result c = omega (arith, trailing_le 64 c.args.w)

pub returns : goal.returns
returns c =
    let w = c.args.w in
    let (small, set) = bit-at-trailing 64 w c.requires c.ranges.w.fits in
    (small, set, bit-below-trailing 64 w)
