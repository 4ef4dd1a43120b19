-- `file_writer::put_count` meets its contract. Assumes nothing.
use Rattle.file_writer.proofs.Writes.{puts_word, puts-count, junctions-word}
use Rattle.file_writer.proofs.put_count.Goals as goal

pub returns : goal.returns
returns c =
    puts-count _ _ (junctions-word _ c.put_word-word.ensures) (puts_word _ _ c.put_natural-number.ensures c.put_byte.ensures)
