-- `path::path_own` meets its contract: the checks refuse, or the walk decides.
-- Assumes nothing.
use Rattle.path.proofs.Result.{settled, own-refused, own-walked}
use native.Mathlib.Omega.{arith}
use Rattle.path.proofs.path_own.Goals as goal

pub returns-in_err-path_check : goal.returns-in_err-path_check
returns-in_err-path_check c =
    let told = own-refused _ _ _ _ _ c.path_check.ensures _ c.in_err-path_check.was _ c.from_residual.ensures.1 in record { answer = told.0; words = told.1 }

pub claim_walk-requires : goal.claim_walk-requires
claim_walk-requires c =
    let h = settled _ _ _ _ c.path_check.ensures c.in_ok-path_check.was in
    omega (arith, h.table.few-vertices)

pub returns : goal.returns
returns c =
    let told = own-walked _ _ _ _ _ c.path_check.ensures c.in_ok-path_check.was _ _ c.claim_walk.ensures.answer c.claim_walk.ensures.words in record { answer = told.0; words = told.1 }
