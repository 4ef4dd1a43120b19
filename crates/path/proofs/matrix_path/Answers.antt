-- `path::matrix_path` meets its contract: what the walk in a matrix of its own answers, and where that is done its words are copied.
-- Assumes nothing.
use Rattle.path.proofs.Result.{path-refuses, path-settled, path-fills}
use mathlib.Core.Path.{refl}
use native.Mathlib.Omega.{arith}
use Rattle.path.proofs.matrix_path.Goals as goal

pub returns-in_err-path_own : goal.returns-in_err-path_own
returns-in_err-path_own c = path-refuses _ _ _ _ refl _ c.path_own.ensures.answer _ c.in_err-path_own.was _ c.from_residual.ensures.1

pub fill-requires : goal.fill-requires
fill-requires c =
    let a = c.args in
    let h = path-settled _ _ a.r.now _ refl _ c.path_own.ensures.answer c.in_ok-path_own.was in
    (h.room, omega (arith, h.table.few-vertices))

pub returns : goal.returns
returns c =
    path-fills _ _ _ _ refl _ c.path_own.ensures.answer c.in_ok-path_own.was _ _ c.path_own.ensures.words c.fill.ensures
