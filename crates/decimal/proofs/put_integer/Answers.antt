-- `decimal::put_integer` meets its contract. Assumes nothing.
use Rattle.std.proofs.Common.{arith, ◌≡◌, ◌<◌, ◌≤◌, ◌-◌, ◌+◌}
use Rattle.std.proofs.lemmas.Int.{ints}
use Rattle.decimal.proofs.Laws.{puts-append, print-above, print-below}
use Rattle.decimal.proofs.put_integer.Goals as goal

pub returns-then-value-ge0 : goal.returns-then-value-ge0
returns-then-value-ge0 c =
    let h : c.args.bits < 9223372036854775808 = grind (arith, ints) in
    rw (print-above 63 c.args.bits h) c.put_natural.ensures

pub returns : goal.returns
returns c =
    let h : 9223372036854775808 ≤ c.args.bits = grind (arith, ints) in
    let e : c.unsigned_abs.result ≡ 18446744073709551615 - c.args.bits + 1 = grind (arith, ints) in
    rw (print-below c.args.bits h (omega arith))
    (puts-append c.put_byte-next.ensures (rw e at c.put_natural-2.ensures))
