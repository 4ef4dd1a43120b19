-- `table_checks::table_check` meets its contract: the sizes are refused, or the lengths and the rows decide in their order. Assumes nothing.
use Rattle.refusal.specs.Outcomes.{refusal_of}
use Rattle.star_spec.specs.Refusals.{bad_lengths}
use Rattle.table_checks.proofs.Laws.{refused-on, done_next, few-vertices, few-rows, table-in-order}
use Rattle.table_checks.proofs.table_check.Goals as goal

pub returns-in_err-size_check : goal.returns-in_err-size_check
returns-in_err-size_check c = rw table-in-order (refused-on _ _ c.in_err-size_check.was c.from_residual.ensures.1 c.size_check.ensures)

pub lengths_check-requires : goal.lengths_check-requires
unfolding refusal_of
lengths_check-requires c = few-rows _ _ c.in_ok-size_check.ensures

pub returns-in_err-lengths_check : goal.returns-in_err-lengths_check
unfolding bad_lengths
returns-in_err-lengths_check c =
    rw table-in-order
    (done_next _ _ _ _ c.in_ok-size_check.was c.size_check.ensures
    (refused-on _ _ c.in_err-lengths_check.was c.from_residual-in_err-lengths_check.ensures.1 c.lengths_check.ensures))

pub rows_check-requires : goal.rows_check-requires
unfolding refusal_of
rows_check-requires c =
    record {
      vertices = few-vertices _ _ c.in_ok-size_check.ensures;
      rows = few-rows _ _ c.in_ok-size_check.ensures;
    }

pub returns : goal.returns
unfolding bad_lengths
returns c =
    let x = c.args in
    rw table-in-order
    (done_next _ _ _ _ c.in_ok-size_check.was c.size_check.ensures
    (done_next _ _ _ _ c.in_ok-lengths_check.was c.lengths_check.ensures (c.rows_check.ensures x.whole x.weight.now x.mark.now)))
