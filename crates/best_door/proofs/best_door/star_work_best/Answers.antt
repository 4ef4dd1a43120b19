-- `best_door::best_door::star_work_best` meets its contract: it is that of `answered` over a working table. Assumes nothing.
use Rattle.best_door.proofs.best_door.star_work_best.Goals as goal

pub returns : goal.returns
returns c =
    let t = c.working-working.ensures in rw (t.rows.0, t.rows.1, t.used) at c.answered.ensures
