-- `digs_lines::put_list` meets its contract. Assumes nothing.
use Rattle.decimal.proofs.Laws.{puts-append}
use Rattle.digs_lines.proofs.put_list.Goals as goal

pub returns : goal.returns
returns c = puts-append c.put_rows-next.ensures (rw c.weigh-bits.ensures at c.put_total.ensures)
