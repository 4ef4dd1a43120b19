-- `path::call_check` meets its contract, by its two tests.
-- Assumes nothing.
use borrow.Author.Tests.{eq-eqb, ne_eqb}
use mathlib.Core.Path.{◌≡◌, ◌∙◌}
use Rattle.refusal.specs.Outcomes.{refusal_of}
use Rattle.star_spec.specs.Refusals.{wrong_source}
use Rattle.table_checks.proofs.Laws.{refusal-two, refused-on, done_next}
use Rattle.path.proofs.call_check.Goals as goal
use Rattle.path.proofs.call_check.Goals.{After-refused_if, then-s-eq0, else-s-eq0}

-- the answer of the first test
source : (c : After-refused_if) → refusal_of c.refused_if.result ≡ wrong_source c.args.n c.args.s
source c =
    c.refused_if.ensures
    ∙ elim c.if-s-eq0.branch [ then-s-eq0 w ↦ rw (w.refused_if-is, eq-eqb _ _ w.if-s-eq0.true) | else-s-eq0 w ↦ rw (w.refused_if-is, ne_eqb _ _ w.if-s-eq0.false) ]

pub returns-in_err-refused_if : goal.returns-in_err-refused_if
returns-in_err-refused_if c =
    rw refusal-two (refused-on _ _ c.in_err-refused_if.was c.from_residual.ensures.1 (source (goal.at.returns-in_err-refused_if c).After-refused_if))

pub returns : goal.returns
returns c = rw refusal-two (done_next _ _ _ _ c.in_ok-refused_if.was (source (goal.at.returns c).After-refused_if) c.refused_if-2.ensures)
