-- `groups_door::star_work_groups` meets its contract: what `groups_table` promises, and what that means. Assumes nothing.
use Rattle.groups_spec.proofs.Bytes.{groups-call}
use Rattle.groups_door.proofs.star_work_groups.Goals as goal

pub returns : goal.returns
returns c =
    let table = c.working-used.ensures in
    let told = rw (table.rows.0, table.rows.1, table.used) at c.groups_table.ensures in
    let means = groups-call (told.0, (told.1, told.2, told.3)) in
    record { returned = means.0; written = means.1.0; means = means.1.1 }
