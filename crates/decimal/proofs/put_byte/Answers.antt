-- `decimal::put_byte` meets its contract: past the column's end nothing is written. Assumes nothing.
use lib.Seq.{set_out}
use mathlib.Core.Path.{refl, sym}
use native.Mathlib.Omega.{arith}
use Rattle.decimal.proofs.put_byte.Goals as goal

pub returns-then-at-out : goal.returns-then-at-out
returns-then-at-out c = record { column = refl; place = omega arith }

pub returns : goal.returns
returns c =
    record { column = sym (set_out c.args.out.now c.args.at c.args.b (omega arith)); place = omega arith }
