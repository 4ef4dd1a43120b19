-- `slice::rows::rows_among` meets its contract: what stands past 1,024 is in no slice. Assumes nothing.
use mathlib.Core.Path.{◌∙◌}
use Rattle.rowset.specs.Sets.{up_to}
use Rattle.slice.proofs.Laws.{both-rows}
use Rattle.slice.proofs.rows.rows_among.Goals as goal

pub returns : goal.returns
returns c =
    let a = c.args in
    c.and.ensures ∙ rw c.rows_to.ensures (both-rows (up_to a.m) a.x)
