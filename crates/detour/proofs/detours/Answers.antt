-- `detour::detours` meets its contract: MatrixPath's refusal is CST's, and where it is done the matrix has the path columns that the numbers are read from. Assumes nothing.
use lib.ListN.{length}
use mathlib.Core.Path.{◌≡◌, refl, sym, ap, ◌∙◌}
use Rattle.mst1.specs.Answers.{answer_of}
use Rattle.refusal.proofs.Passed.{handed-on}
use Rattle.refusal.specs.Outcomes.{refusal_of}
use Rattle.detour.proofs.Paths.{refused-rows, rows_walked, rows-loads, rows_whole, lent_length}
use Rattle.detour.proofs.detours.Goals as goal

pub returns-in_err-path_own : goal.returns-in_err-path_own
unfolding answer_of refusal_of
returns-in_err-path_own c =
    let (m, whole, used) = c.beside-lent.ensures in
    let told = rw (m, whole, used) at c.path_own.ensures in
    rw (handed-on _ c.from_residual.ensures.1) (refused-rows _ _ refl _ _ (ap refusal_of (sym c.in_err-path_own.was) ∙ told.answer))

pub tell-requires : goal.tell-requires
unfolding refusal_of
tell-requires c =
    let (m, whole, used) = c.beside-lent.ensures in
    let told = rw (m, whole, used) at c.path_own.ensures in
    let done = ap refusal_of (sym c.in_ok-path_own.was) ∙ told.answer in
    let all : length c.args.rows.now ≡ c.beside-lent.result.m = lent_length c.args.table.whole c.args.rows.now c.args.table.m (rows_whole _ _ refl done) ∙ sym m in
    (rows-loads _ _ refl done, all)

pub returns : goal.returns
unfolding answer_of refusal_of
returns c =
    let (m, whole, used) = c.beside-lent.ensures in
    let told = rw (m, whole, used) at c.path_own.ensures in
    let done = ap refusal_of (sym c.in_ok-path_own.was) ∙ told.answer in
    (rw (m, used) at c.tell.ensures) _ _ (rows_walked _ _ refl done _ told.words)
