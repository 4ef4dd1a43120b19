-- `outlets_door::outlets_door::star_work_outlets` meets its contract: what `outlets_table` promises, and what that means. Assumes nothing.
use Rattle.outlets_spec.proofs.Bytes.{outlets-call}
use Rattle.outlets_door.proofs.outlets_door.star_work_outlets.Goals as goal

pub returns : goal.returns
returns c =
    let table = c.working-used.ensures in
    let told = rw (table.rows.0, table.rows.1, table.used) at c.outlets_table.ensures in
    let means = outlets-call told in
    record { returned = means.0; written = means.1.0; means = means.1.1 }
