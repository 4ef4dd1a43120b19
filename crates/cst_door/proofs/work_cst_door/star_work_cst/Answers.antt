-- `cst_door::work_cst_door::star_work_cst` meets its contract: it is that of `answered` over a working table, and what it means. Assumes nothing.
use Rattle.promise.proofs.Doors.{work-cst}
use Rattle.cst_door.proofs.work_cst_door.star_work_cst.Goals as goal

pub returns : goal.returns
returns c =
    let table = c.working-working.ensures in
    let told = work-cst c.args.words.now (c.answered.ensures.returned, rw (table.rows.0, table.rows.1, table.used) at c.answered.ensures.answered) in
    record { returned = told.0; answered = told.1.0; means = told.1.1 }
