-- `outlets::vertex_check` meets its contract: the table's causes, and then that of the vertex. Assumes nothing.
use borrow.Author.Tests.{eq-eqb, ne_eqb}
use Rattle.table_checks.proofs.Laws.{refusal-one, refusal-both, refused-on, done_next}
use Rattle.outlets_spec.specs.Outlets.{vertex_asked}
use Rattle.star_spec.specs.Refusals.{bad_source}
use Rattle.outlets.proofs.vertex_check.Goals as goal
use Rattle.outlets.proofs.vertex_check.Goals.{then-r-eq0, else-r-eq0}

pub returns-in_err-table_check : goal.returns-in_err-table_check
unfolding vertex_asked
returns-in_err-table_check c = rw refusal-both (refused-on _ _ c.in_err-table_check.was c.from_residual.ensures.1 c.table_check.ensures)

pub returns : goal.returns
unfolding vertex_asked bad_source
returns c =
    rw (refusal-both, refusal-one)
    (done_next _ _ _ _ c.in_ok-table_check.was c.table_check.ensures
    (rw c.refused_if.ensures
    (elim c.if-r-eq0.branch [
      | then-r-eq0 w ↦ rw (w.refused_if-is, eq-eqb _ _ w.if-r-eq0.true)
      | else-r-eq0 w ↦ rw (w.refused_if-is, ne_eqb _ _ w.if-r-eq0.false)
    ])))
