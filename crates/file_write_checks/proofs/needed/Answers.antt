-- `file_write_checks::needed` meets its contract. Assumes nothing.
use borrow.Author.Rules.{rules}
use Rattle.file_writer.specs.Columns.{room}
use Rattle.file_write_checks.proofs.needed.Goals as goal

pub returns : goal.returns
unfolding room
returns c = search rules
