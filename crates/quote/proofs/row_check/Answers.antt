-- `quote::row_check` meets its contract: the table's causes, and then that of the row. Assumes nothing.
use mathlib.Core.Path.{◌∙◌}
use Rattle.table_checks.proofs.Laws.{refusal-one, refusal-both, refused-on, done_next}
use Rattle.star_spec.specs.Call.{used}
use Rattle.price_spec.specs.Quote.{no_row, row_asked}
use Rattle.quote.proofs.row_check.Goals as goal

pub returns-in_err-table_check : goal.returns-in_err-table_check
unfolding row_asked
returns-in_err-table_check c =
    rw refusal-both (refused-on _ _ c.in_err-table_check.was c.from_residual.ensures.1 c.table_check.ensures)

pub returns : goal.returns
unfolding row_asked no_row used
returns c =
    rw (refusal-both, refusal-one)
    (done_next _ _ _ _ c.in_ok-table_check.was c.table_check.ensures (rw (c.refused_if.ensures, c.get.ensures, c.rows_among-rows.ensures)))
