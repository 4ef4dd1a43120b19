-- `digs_door::digs_door::star_work_digs` meets its contract: it is that of `answered` over a working table. Assumes nothing.
use Rattle.digs_door.proofs.digs_door.star_work_digs.Goals as goal

pub returns : goal.returns
returns c =
    let t = c.working-working.ensures in rw (t.rows.0, t.rows.1, t.used) at c.answered.ensures
