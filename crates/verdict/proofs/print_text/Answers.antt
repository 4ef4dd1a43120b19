-- `verdict::print_text` meets its contract: what follows from each of the reader's answers. Assumes nothing.
use Rattle.verdict.proofs.Laws.{read-verdict, refused-verdict, told_text}
use Rattle.verdict.proofs.print_text.Goals as goal

pub returns-in-Ok : goal.returns-in-Ok
returns-in-Ok c =
    let lent = c.read_table-read.ensures in
    let told = told_text _ (read-verdict _ lent.answer c.in-Ok.is lent.lent) c.table_verdict.ensures in
    record { puts = told.0; few = told.1.0; status = told.1.1 }

pub returns-in-Err : goal.returns-in-Err
returns-in-Err c =
    let lent = c.read_table-read.ensures in
    let told = told_text _ (refused-verdict _ lent.answer c.in-Err.is) c.put_refused.ensures in
    record { puts = told.0; few = told.1.0; status = told.1.1 }
