-- `breaking_door::breaking_door::star_breaking` meets its contract: it is that of `answered` over a plain table. Assumes nothing.
use Rattle.breaking_door.proofs.breaking_door.star_breaking.Goals as goal

pub returns : goal.returns
returns c =
    let t = c.plain-plain.ensures in rw (t.rows.0, t.rows.1, t.used) at c.answered.ensures
