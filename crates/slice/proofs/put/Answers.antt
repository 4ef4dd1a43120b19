-- `slice::put` meets its contract, by that of `write_row`. Assumes nothing.
use Rattle.slice.proofs.Laws.{component-words}
use Rattle.slice.proofs.put.Goals as goal

pub returns : goal.returns
returns c = simp component-words c.write_row.ensures.rows
