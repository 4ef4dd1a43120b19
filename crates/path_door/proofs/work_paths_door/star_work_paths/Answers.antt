-- `path_door::work_paths_door::star_work_paths` meets its contract: it is that of `answered` over a working table. Assumes nothing.
use Rattle.path_door.proofs.work_paths_door.star_work_paths.Goals as goal

pub returns : goal.returns
returns c =
    let t = c.working-working.ensures in rw (t.rows.0, t.rows.1, t.used) at c.answered.ensures
