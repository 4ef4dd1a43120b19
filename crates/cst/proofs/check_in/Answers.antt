-- `cst::check_in` meets its contract: MatrixPath's refusal is CST's, and where it is done the matrix has the path columns that the verdict is read from. Assumes nothing.
use mathlib.Core.Path.{sym, ap, ◌∙◌}
use Rattle.refusal.specs.Outcomes.{refusal_of}
use Rattle.refusal.proofs.Passed.{handed-on}
use Rattle.cst.proofs.Paths.{refused-own, walked-own, loads-own}
use Rattle.cst.specs.Verdicts.{answer_of, equal_rows_of}
use Rattle.cst.proofs.check_in.Goals as goal

pub returns-in_err-path_own : goal.returns-in_err-path_own
unfolding answer_of equal_rows_of refusal_of
returns-in_err-path_own c =
    let told = refused-own _ c.args.own.now (λ t. c.requires t.few-vertices) _ (ap refusal_of (sym c.in_err-path_own.was) ∙ c.path_own.ensures.answer) in
    let handed = handed-on _ c.from_residual.ensures.1 in record {
      verdict = rw handed told.0;
      rows = rw handed told.1;
    }

pub judge-requires : goal.judge-requires
unfolding refusal_of
judge-requires c =
    loads-own _ c.args.own.now (λ t. c.requires t.few-vertices) (ap refusal_of (sym c.in_ok-path_own.was) ∙ c.path_own.ensures.answer)

pub returns : goal.returns
unfolding refusal_of
returns c =
    let told = c.judge.ensures _ _ (walked-own _ c.args.own.now (λ t. c.requires t.few-vertices) (ap refusal_of (sym c.in_ok-path_own.was) ∙ c.path_own.ensures.answer) _ c.path_own.ensures.words) in record { verdict = told.0; rows = told.1 }
