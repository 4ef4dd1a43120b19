-- `file_writer::put_header` meets its contract. Assumes nothing.
use borrow.Author.Rules.{rules}
use Rattle.file_writer.proofs.Writes.{puts-header, none-header}
use Rattle.file_writer.proofs.put_header.Goals as goal

pub returns-then-header : goal.returns-then-header
returns-then-header c =
    puts-header _ _ (search rules) c.put_word-first.ensures c.put_word-second.ensures c.put_word-third.ensures c.put_word.ensures

pub returns : goal.returns
returns c = none-header _ _ _ (search rules)
