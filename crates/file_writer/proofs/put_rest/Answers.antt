-- `file_writer::put_rest` meets its contract. Assumes nothing.
use Rattle.file_writer.proofs.Writes.{puts-rest}
use Rattle.file_writer.proofs.put_rest.Goals as goal

pub returns : goal.returns
returns c =
    puts-rest _ _ _ _ _ _ _ c.row_weight-w.ensures c.row_byte.ensures c.mark_unless-m.ensures c.put_price-first.ensures c.put_byte-second.ensures c.put_natural-third.ensures c.put_byte.ensures
