-- `decimal::put_price` meets its contract: 64 bits stand for the same integer. Assumes nothing.
use Rattle.std.proofs.Common.{arith, ◌≡◌, ◌<◌, ◌≤◌, ◌+◌}
use Rattle.std.proofs.lemmas.Int.{ints}
use Rattle.decimal.proofs.Laws.{widened}
use Rattle.decimal.proofs.put_price.Goals as goal

pub returns : goal.returns
returns c =
    let low : c.args.bits < 2147483648 → c.cast_unsigned.result ≡ c.args.bits = λ h. grind (arith, ints) in
    let high : 2147483648 ≤ c.args.bits → c.cast_unsigned.result ≡ c.args.bits + 18446744069414584320 = λ h. grind (arith, ints) in
    rw (widened c.args.bits (omega arith) low high) at c.put_integer.ensures
