-- `file_writer::write_table` meets its contract. Assumes nothing.
use Rattle.file_writer.proofs.Writes.{puts-all}
use Rattle.file_writer.proofs.write_table.Goals as goal

pub returns : goal.returns
returns c =
    puts-all _ _ _ _ _ c.has_header-header.ensures c.put_header-first.ensures c.put_count-second.ensures c.put_rows.ensures
