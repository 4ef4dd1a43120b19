-- `file_writer::put_ends` meets its contract. Assumes nothing.
use Rattle.file_writer.proofs.Writes.{puts-ends}
use Rattle.file_writer.proofs.put_ends.Goals as goal

pub returns : goal.returns
returns c =
    puts-ends _ _ _ _ _ _ _ _ c.row_byte-a.ensures c.row_byte-b.ensures c.put_junction-first.ensures c.put_byte-second.ensures c.put_junction-third.ensures c.put_byte.ensures
