-- `file_writer::put_row` meets its contract. Assumes nothing.
use Rattle.file_writer.proofs.Writes.{puts-row}
use Rattle.file_writer.proofs.put_row.Goals as goal

pub returns : goal.returns
returns c =
    puts-row _ _ _ _ c.is_struck-struck.ensures c.put_struck-word.ensures c.put_ends-both.ensures c.put_rest.ensures
