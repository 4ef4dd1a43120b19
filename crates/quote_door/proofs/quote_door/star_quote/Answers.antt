-- `quote_door::quote_door::star_quote` meets its contract: it is that of `answered` over a plain table. Assumes nothing.
use Rattle.quote_door.proofs.quote_door.star_quote.Goals as goal

pub returns : goal.returns
returns c =
    let t = c.plain-plain.ensures in rw (t.rows.0, t.rows.1, t.used) at c.answered.ensures
