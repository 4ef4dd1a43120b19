-- `districts_door::star_districts` meets its contract: what `districts_table` promises, and what that means. Assumes nothing.
use Rattle.districts_spec.proofs.Bytes.{districts-call}
use Rattle.districts_door.proofs.star_districts.Goals as goal

pub returns : goal.returns
returns c =
    let table = c.plain-table.ensures in
    let told = rw (table.rows.0, table.rows.1, table.used) at c.districts_table.ensures in
    let means = districts-call told in
    record { returned = means.0; written = means.1.0; means = means.1.1 }
