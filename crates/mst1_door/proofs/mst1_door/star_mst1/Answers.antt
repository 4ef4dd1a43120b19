-- `mst1_door::mst1_door::star_mst1` meets its contract: it is that of `answered` over a plain table, and what it means. Assumes nothing.
use Rattle.promise.proofs.Doors.{plain-mst1}
use Rattle.mst1_door.proofs.mst1_door.star_mst1.Goals as goal

pub returns : goal.returns
returns c =
    let table = c.plain-plain.ensures in
    let told = plain-mst1 (c.answered.ensures.returned, rw (table.rows.0, table.rows.1, table.used) at c.answered.ensures.written) in
    record { returned = told.0; written = told.1.0; means = told.1.1 }
