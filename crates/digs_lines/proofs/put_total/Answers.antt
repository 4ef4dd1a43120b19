-- `digs_lines::put_total` meets its contract. Assumes nothing.
use Rattle.decimal.proofs.Laws.{puts-append}
use Rattle.digs_spec.specs.DigList.{total_line}
use Rattle.stp_words.specs.Bytes.{bytes}
use Rattle.digs_lines.proofs.put_total.Goals as goal

pub returns : goal.returns
unfolding total_line bytes
returns c = puts-append c.put_text-word.ensures (puts-append c.put_integer-number.ensures c.put_byte.ensures)
