-- `cst_door::cst_door::star_cst` meets its contract: it is that of `answered` over a plain table, and what it means. Assumes nothing.
use Rattle.promise.proofs.Doors.{plain-cst}
use Rattle.cst_door.proofs.cst_door.star_cst.Goals as goal

pub returns : goal.returns
returns c =
    let table = c.plain-plain.ensures in
    let told = plain-cst (c.answered.ensures.returned, rw (table.rows.0, table.rows.1, table.used) at c.answered.ensures.answered) in
    record { returned = told.0; answered = told.1.0; means = told.1.1 }
