-- `which_door::which_door::star_work_which` meets its contract: what `which::which` promises of a working table, and what it means. Assumes nothing.
use Rattle.which_spec.proofs.Means.{which-call}
use Rattle.which_door.proofs.which_door.star_work_which.Goals as goal

pub returns : goal.returns
returns c =
    let table = c.working-working.ensures in
    let (returned, answered) = rw (table.rows.0, table.rows.1, table.used) at c.which.ensures in
    record { returned = returned; answered = answered; means = (which-call (returned, answered)).1.1 }
