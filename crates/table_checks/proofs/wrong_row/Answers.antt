-- `table_checks::wrong_row` meets its contract, by what its callees ensure. Assumes nothing.
use mathlib.Core.Path.{sym, ◌∙◌}
use Rattle.star_spec.specs.Refusals.{wrong_row}
use Rattle.rowset.specs.Words.{in_words}
use Rattle.table_checks.proofs.Laws.{and-refuted, and-shown}
use Rattle.table_checks.proofs.wrong_row.Goals as goal

pub returns-then-not-wrong_ends : goal.returns-then-not-wrong_ends
unfolding wrong_row
returns-then-not-wrong_ends c =
    let ends = rw (c.row_byte.ensures, c.row_byte-2.ensures) at c.wrong_ends.ensures in
    let a = c.args in
    and-refuted (in_words a.rows.now a.k) (sym ends ∙ c.if-not-wrong_ends.true)

pub returns : goal.returns
unfolding wrong_row
returns c =
    let ends = rw (c.row_byte.ensures, c.row_byte-2.ensures) at c.wrong_ends.ensures in
    and-shown (sym ends ∙ c.if-not-wrong_ends.false) c.row_in.ensures
