-- `cst_door::work_other_door::star_work_other` meets its contract: it is that of `answered` over a working table, and what it means. Assumes nothing.
use Rattle.promise.proofs.Doors.{work-other}
use Rattle.cst_door.proofs.work_other_door.star_work_other.Goals as goal

pub returns : goal.returns
returns c =
    let table = c.working-working.ensures in
    let told = work-other c.args.words.now (c.answered.ensures.returned, rw (table.rows.0, table.rows.1, table.used) at c.answered.ensures.answered) in
    record { returned = told.0; answered = told.1.0; means = told.1.1 }
