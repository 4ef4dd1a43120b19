-- `file_write_door::star_write_table` meets its contract: what `write_sheet`, `of_written` and `write_answer` promise, one after the other. Assumes nothing.
use borrow.Author.Rules.{rules}
use borrow.Author.Tests.{not-true, not-false}
use mathlib.Core.Path.{sym, ◌∙◌}
use native.Mathlib.Omega.{arith}
use Rattle.file_write_door.proofs.Bytes.{write-call}
use Rattle.file_write_door.proofs.Told.{untouched, told}
use Rattle.file_write_door.proofs.star_write_table.Goals as goal

pub returns-then-not-well_lent : goal.returns-then-not-well_lent
returns-then-not-well_lent c =
    let told = write-call (omega arith) (untouched _ _ _ _ _ (sym c.well_lent.ensures ∙ c.if-not-well_lent.true)) in record { returned = told.0; answered = told.1.0; written = told.1.1.0; means = told.1.1.1 }

pub returns : goal.returns
returns c =
    let told = write-call (omega arith)
    (told _ _ _ _ _ _ (omega arith) (sym c.well_lent.ensures ∙ c.if-not-well_lent.false) _ c.write_sheet-w.ensures c.write_answer.ensures c.of_written-x.ensures) in record { returned = told.0; answered = told.1.0; written = told.1.1.0; means = told.1.1.1 }
