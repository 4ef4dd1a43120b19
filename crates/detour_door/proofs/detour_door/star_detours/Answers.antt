-- `detour_door::detour_door::star_detours` meets its contract: it is that of `answered` over a plain table. Assumes nothing.
use Rattle.detour_door.proofs.detour_door.star_detours.Goals as goal

pub returns : goal.returns
returns c =
    let t = c.plain-plain.ensures in rw (t.rows.0, t.rows.1, t.used) at c.answered.ensures
