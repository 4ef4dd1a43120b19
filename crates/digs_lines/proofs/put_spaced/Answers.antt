-- `digs_lines::put_spaced` meets its contract. Assumes nothing.
use Rattle.decimal.proofs.Laws.{puts-append}
use Rattle.stp_words.specs.Bytes.{bytes}
use Rattle.digs_lines.proofs.put_spaced.Goals as goal

pub returns : goal.returns
unfolding bytes
returns c = puts-append c.put_natural-next.ensures c.put_byte.ensures
