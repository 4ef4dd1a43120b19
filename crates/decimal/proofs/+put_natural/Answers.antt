-- `decimal::put_natural` meets its contract: what is put before the last digit is the number's tenth. Assumes nothing.
use native.Mathlib.Omega.{arith}
use Rattle.decimal.proofs.Laws.{puts-append, natural-digit, natural-more}
use Rattle.decimal.proofs.+put_natural.Goals as goal

pub returns-then-x-lt10 : goal.returns-then-x-lt10
returns-then-x-lt10 t c = rw (natural-digit c.args.x (omega arith)) c.put_byte.ensures

pub returns : goal.returns
returns t c =
    rw (natural-more c.args.x (omega arith))
    (puts-append c.put_natural-next.ensures c.put_byte-2.ensures)
