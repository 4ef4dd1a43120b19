-- `file_writer::put_word` meets its contract. Assumes nothing.
use Rattle.file_writer.proofs.Writes.{puts_word}
use Rattle.file_writer.proofs.put_word.Goals as goal

pub returns : goal.returns
returns c = puts_word _ _ c.put_text-next.ensures c.put_byte.ensures
