-- `best::best` meets its contract: MatrixPath's refusal is CST's, and where it is done the matrix has the path columns that the exchanges are read from. Assumes nothing.
use mathlib.Core.Path.{refl, sym, ap, ◌∙◌}
use Rattle.detour.proofs.Paths.{rows_walked, rows-loads, rows_few}
use Rattle.refusal.proofs.Passed.{handed-on}
use Rattle.refusal.specs.Outcomes.{refusal_of}
use Rattle.best.proofs.Told.{refused-best}
use Rattle.best.specs.Answers.{answer_of}
use Rattle.best.proofs.best.Goals as goal

pub returns-in_err-path_own : goal.returns-in_err-path_own
unfolding answer_of refusal_of
returns-in_err-path_own c =
    rw (handed-on _ c.from_residual.ensures.1) (refused-best _ _ refl _ (ap refusal_of (sym c.in_err-path_own.was) ∙ c.path_own.ensures.answer))

pub tell-requires : goal.tell-requires
unfolding refusal_of
tell-requires c =
    let done = ap refusal_of (sym c.in_ok-path_own.was) ∙ c.path_own.ensures.answer in
    (rows-loads _ _ refl done, rows_few _ _ refl done)

pub returns : goal.returns
unfolding answer_of refusal_of
returns c =
    let done = ap refusal_of (sym c.in_ok-path_own.was) ∙ c.path_own.ensures.answer in
    c.tell.ensures _ (rows_walked _ _ refl done _ c.path_own.ensures.words)
