-- `file_writer::put_name` meets its contract. Assumes nothing.
use Rattle.file_writer.proofs.Writes.{puts-name}
use Rattle.file_writer.proofs.put_name.Goals as goal

pub returns : goal.returns
returns c = puts-name _ _ _ _ _ _ (cc) (cc) c.put_part.ensures
