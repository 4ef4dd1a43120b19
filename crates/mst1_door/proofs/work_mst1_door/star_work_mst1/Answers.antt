-- `mst1_door::work_mst1_door::star_work_mst1` meets its contract: it is that of `answered` over a working table, and what it means. Assumes nothing.
use Rattle.promise.proofs.Doors.{work-mst1}
use Rattle.mst1_door.proofs.work_mst1_door.star_work_mst1.Goals as goal

pub returns : goal.returns
returns c =
    let table = c.working-working.ensures in
    let told = work-mst1 c.args.words.now (c.answered.ensures.returned, rw (table.rows.0, table.rows.1, table.used) at c.answered.ensures.written) in
    record { returned = told.0; written = told.1.0; means = told.1.1 }
