-- `digs_lines::put_row` meets its contract. Assumes nothing.
use Rattle.decimal.proofs.Laws.{puts-append}
use Rattle.digs_spec.specs.DigList.{row_line}
use Rattle.stp_words.specs.Bytes.{bytes}
use Rattle.digs_lines.proofs.put_row.Goals as goal

pub returns : goal.returns
unfolding row_line bytes
returns c =
    rw (← c.row_byte-l.ensures, ← c.row_byte-r.ensures, ← c.row_weight-w.ensures)
    (puts-append
    (puts-append (puts-append (puts-append c.put_spaced-first.ensures c.put_spaced-second.ensures) c.put_spaced-third.ensures) c.put_price-last.ensures)
    c.put_byte.ensures)
