-- `file_writer::put_struck` meets its contract. Assumes nothing.
use borrow.Author.Rules.{rules}
use native.Mathlib.Omega.{arith}
use Rattle.file_writer.proofs.Writes.{puts-struck, none-struck}
use Rattle.file_writer.proofs.put_struck.Goals as goal

pub returns-then-struck : goal.returns-then-struck
returns-then-struck c = puts-struck _ _ (search rules) c.put_word.ensures

pub returns : goal.returns
returns c = none-struck (omega arith) _ _ (search rules)
