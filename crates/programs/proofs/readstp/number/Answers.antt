-- `programs::readstp::number` meets its contract. Assumes nothing.
use Rattle.decimal.proofs.Laws.{puts-append}
use Rattle.programs.proofs.readstp.number.Goals as goal

pub returns : goal.returns
returns c = puts-append c.put_natural-next.ensures c.put_byte.ensures
