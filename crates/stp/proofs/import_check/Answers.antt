-- `stp::import_check` meets its contract: the causes in their order. Assumes nothing.
use mathlib.Core.Path.{◌∙◌}
use Rattle.refusal.proofs.Passed.{handed-on}
use Rattle.refusal.specs.Outcomes.{refusal_of}
use Rattle.stp_reader.specs.Readings.{read_of}
use Rattle.stp.proofs.Importing.{edges-refused, size-first, size-taken}
use Rattle.stp.proofs.import_check.Goals as goal

pub returns-then-table : goal.returns-then-table
unfolding refusal_of read_of
returns-then-table c = rw c.of.ensures (edges-refused _ _ _ _ c.if-table.true)

pub returns-in_err-size_check : goal.returns-in_err-size_check
unfolding refusal_of read_of
returns-in_err-size_check c =
    rw (handed-on _ c.from_residual.ensures.1) (size-first _ _ _ _ c.if-table.false _ c.in_err-size_check.ensures)

pub rows_check-requires : goal.rows_check-requires
unfolding refusal_of
rows_check-requires c = (c.in_ok-size_check.ensures, c.requires)

pub returns : goal.returns
unfolding refusal_of read_of
returns c = c.rows_check.ensures ∙ size-taken _ _ _ _ c.if-table.false c.in_ok-size_check.ensures
