-- `file_write_checks::write_check` meets its contract. Assumes nothing.
use Rattle.refusal.specs.Outcomes.{refusal_of}
use Rattle.file_write_checks.specs.Checks.{write_cause}
use Rattle.file_write_checks.proofs.Laws.{few-names, few-rows}
use Rattle.table_checks.proofs.Laws.{refused-on, done_next}
use Rattle.file_write_checks.proofs.write_check.Goals as goal

pub names_check-requires : goal.names_check-requires
unfolding refusal_of
names_check-requires c = few-names _ _ _ _ _ c.in_ok-sizes_check.ensures

pub rows_check-requires : goal.rows_check-requires
unfolding refusal_of
rows_check-requires c = few-rows _ _ _ _ _ c.in_ok-sizes_check.ensures

pub returns-in_err-sizes_check : goal.returns-in_err-sizes_check
unfolding write_cause
returns-in_err-sizes_check c = refused-on _ _ c.in_err-sizes_check.was c.from_residual.ensures.1 (rw (← c.wrong_columns-wrong.ensures, ← c.first_past.ensures) c.sizes_check.ensures)

pub returns-in_err-names_check : goal.returns-in_err-names_check
unfolding write_cause
returns-in_err-names_check c =
    done_next _ _ _ _ c.in_ok-sizes_check.was (rw (← c.wrong_columns-wrong.ensures, ← c.first_past.ensures) c.sizes_check.ensures)
    (refused-on _ _ c.in_err-names_check.was c.from_residual-in_err-names_check.ensures.1 c.names_check.ensures)

pub returns-in_err-rows_check : goal.returns-in_err-rows_check
unfolding write_cause
returns-in_err-rows_check c =
    done_next _ _ _ _ c.in_ok-sizes_check.was (rw (← c.wrong_columns-wrong.ensures, ← c.first_past.ensures) c.sizes_check.ensures)
    (done_next _ _ _ _ c.in_ok-names_check.was c.names_check.ensures
    (refused-on _ _ c.in_err-rows_check.was c.from_residual-in_err-rows_check.ensures.1 c.rows_check.ensures))

pub returns : goal.returns
unfolding write_cause
returns c =
    done_next _ _ _ _ c.in_ok-sizes_check.was (rw (← c.wrong_columns-wrong.ensures, ← c.first_past.ensures) c.sizes_check.ensures)
    (done_next _ _ _ _ c.in_ok-names_check.was c.names_check.ensures
    (done_next _ _ _ _ c.in_ok-rows_check.was c.rows_check.ensures (rw (← c.longest.ensures.0) c.room_check.ensures)))
