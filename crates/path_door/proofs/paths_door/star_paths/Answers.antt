-- `path_door::paths_door::star_paths` meets its contract: it is that of `answered` over a plain table. Assumes nothing.
use Rattle.path_door.proofs.paths_door.star_paths.Goals as goal

pub returns : goal.returns
returns c =
    let t = c.plain-plain.ensures in rw (t.rows.0, t.rows.1, t.used) at c.answered.ensures
