-- `path_door::paths_door::answered` meets its contract: what MatrixPath, `of_outcome` and `write_answer` promise, one after the other. Assumes nothing.
use mathlib.Core.Path.{sym, ◌∙◌}
use Rattle.path_door.proofs.Laws.{unwritten, answered}
use Rattle.path_meaning.proofs.Bytes.{paths-call}
use Rattle.path_door.proofs.paths_door.answered.Goals as goal

pub returns-then-not-well_lent : goal.returns-then-not-well_lent
returns-then-not-well_lent c =
    let told = paths-call (unwritten _ _ _ _ (sym c.well_lent.ensures ∙ c.if-not-well_lent.true)) in record { returned = told.0; answered = told.1.0; filled = told.1.1.0; means = told.1.1.1 }

pub returns : goal.returns
returns c =
    let told = paths-call
    (answered _ _ _ _ (sym c.well_lent.ensures ∙ c.if-not-well_lent.false) c.write_answer.ensures c.of_outcome-x.ensures
    c.matrix_path-o.ensures) in record { returned = told.0; answered = told.1.0; filled = told.1.1.0; means = told.1.1.1 }
