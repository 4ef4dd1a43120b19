-- `breaking_door::breaking_door::star_work_breaking` meets its contract: it is that of `answered` over a working table. Assumes nothing.
use Rattle.breaking_door.proofs.breaking_door.star_work_breaking.Goals as goal

pub returns : goal.returns
returns c =
    let t = c.working-working.ensures in rw (t.rows.0, t.rows.1, t.used) at c.answered.ensures
