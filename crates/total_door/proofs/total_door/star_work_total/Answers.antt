-- `total_door::total_door::star_work_total` meets its contract: it is that of the shared door over a working table. Assumes nothing.
use Rattle.total_door.proofs.total_door.star_work_total.Goals as goal

pub returns : goal.returns
returns c =
    let t = c.working-working.ensures in rw (t.rows.0, t.rows.1, t.used) at c.answered.ensures
