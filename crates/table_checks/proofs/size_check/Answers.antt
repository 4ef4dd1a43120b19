-- `table_checks::size_check` meets its contract, by its two tests. Assumes nothing.
use borrow.Author.Tests.{eq-eqb, ne_eqb}
use mathlib.Core.Path.{◌≡◌, ◌∙◌}
use Rattle.refusal.specs.Outcomes.{refusal_of}
use Rattle.star_spec.specs.Refusals.{bad_vertices, too_many_rows}
use Rattle.table_checks.proofs.Laws.{refusal-two, refused-on, done_next}
use Rattle.table_checks.proofs.size_check.Goals as goal
use Rattle.table_checks.proofs.size_check.Goals.{After-refused_if, then-n-eq0, else-n-eq0}

-- the answer of the first test
first : (c : After-refused_if) → refusal_of c.refused_if.result ≡ bad_vertices c.args.n
unfolding bad_vertices
first c =
    c.refused_if.ensures
    ∙ elim c.if-n-eq0.branch [ then-n-eq0 w ↦ rw (w.refused_if-is, eq-eqb _ _ w.if-n-eq0.true) | else-n-eq0 w ↦ rw (w.refused_if-is, ne_eqb _ _ w.if-n-eq0.false) ]

pub returns-in_err-refused_if : goal.returns-in_err-refused_if
returns-in_err-refused_if c =
    rw refusal-two (refused-on _ _ c.in_err-refused_if.was c.from_residual.ensures.1 (first (goal.at.returns-in_err-refused_if c).After-refused_if))

pub returns : goal.returns
unfolding too_many_rows
returns c = rw refusal-two (done_next _ _ _ _ c.in_ok-refused_if.was (first (goal.at.returns c).After-refused_if) c.refused_if-2.ensures)
