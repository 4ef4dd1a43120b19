-- `plan_digs::plan_check` meets its contract: MatrixPath from vertex 1 on a matrix of 4,080 words refuses what CST refuses. Assumes nothing.
use mathlib.Core.Path.{refl}
use Rattle.cst.proofs.Refused.{own-refusal}
use Rattle.plan_digs.proofs.plan_check.Goals as goal

pub returns : goal.returns
returns c = own-refusal _ _ c.path_own.ensures.answer refl
