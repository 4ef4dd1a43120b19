-- `file_write_checks::sizes_check` meets its contract. Assumes nothing.
use mathlib.Core.Bool.{not}
use mathlib.Core.Path.{ap, ◌∙◌}
use Rattle.star_spec.specs.Refusals.{cause}
use Rattle.table_checks.proofs.Laws.{refused-on, done_next}
use Rattle.file_write_checks.proofs.Laws.{size-causes}
use Rattle.file_write_checks.proofs.sizes_check.Goals as goal

pub returns-in_err-refused_if : goal.returns-in_err-refused_if
returns-in_err-refused_if c =
    rw (← size-causes)
    (refused-on _ _ c.in_err-refused_if.was c.from_residual.ensures.1 c.refused_if.ensures)

pub returns-in_err-refused_if-2 : goal.returns-in_err-refused_if-2
returns-in_err-refused_if-2 c =
    rw (← size-causes)
    (done_next _ _ _ _ c.in_ok-refused_if.was c.refused_if.ensures (refused-on _ _ c.in_err-refused_if-2.was c.from_residual-in_err-refused_if-2.ensures.1 c.refused_if-2.ensures))

pub returns-in_err-refused_at : goal.returns-in_err-refused_at
returns-in_err-refused_at c =
    rw (← size-causes)
    (done_next _ _ _ _ c.in_ok-refused_if.was c.refused_if.ensures (done_next _ _ _ _ c.in_ok-refused_if-2.was c.refused_if-2.ensures (refused-on _ _ c.in_err-refused_at.was c.from_residual-in_err-refused_at.ensures.1 c.refused_at.ensures)))

pub returns-in_err-refused_if-3 : goal.returns-in_err-refused_if-3
returns-in_err-refused_if-3 c =
    rw (← size-causes)
    (done_next _ _ _ _ c.in_ok-refused_if.was c.refused_if.ensures (done_next _ _ _ _ c.in_ok-refused_if-2.was c.refused_if-2.ensures (done_next _ _ _ _ c.in_ok-refused_at.was c.refused_at.ensures (refused-on _ _ c.in_err-refused_if-3.was c.from_residual-in_err-refused_if-3.ensures.1 c.refused_if-3.ensures))))

pub returns : goal.returns
returns c =
    rw (← size-causes)
    (done_next _ _ _ _ c.in_ok-refused_if.was c.refused_if.ensures (done_next _ _ _ _ c.in_ok-refused_if-2.was c.refused_if-2.ensures (done_next _ _ _ _ c.in_ok-refused_at.was c.refused_at.ensures (done_next _ _ _ _ c.in_ok-refused_if-3.was c.refused_if-3.ensures (c.refused_if-4.ensures ∙ ap (λ x. cause (not x) 28 0) c.is_separator.ensures)))))
