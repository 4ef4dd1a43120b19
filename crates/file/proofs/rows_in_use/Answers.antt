-- `file::rows_in_use` meets its contract. Assumes nothing.
use mathlib.Core.Path.{◌∙◌}
use Rattle.file.proofs.Laws.{in_use}
use Rattle.file.proofs.rows_in_use.Goals as goal

pub returns : goal.returns
returns c =
    let p = c.requires in
    c.without.ensures ∙ (rw (c.claim_rows.ensures, c.rows_to-rows.ensures) (in_use _ _ p.1 p.0))
