-- `table_checks::marked_row` meets its contract, by what its callees ensure. Assumes nothing.
use borrow.Author.Tests.{eq-eqb, ne_eqb}
use lib.Dec.{eqb}
use mathlib.Core.Path.{sym, ap, ◌∙◌}
use Rattle.rowset.specs.Sets.{both}
use Rattle.star_spec.specs.Call.{marked}
use Rattle.rowset.specs.Words.{in_words}
use Rattle.table_checks.proofs.Laws.{and-refuted, and-shown}
use Rattle.table_checks.proofs.marked_row.Goals as goal

pub returns-then-row_byte-ne1 : goal.returns-then-row_byte-ne1
unfolding both marked
returns-then-row_byte-ne1 c =
    let a = c.args in
    and-refuted (in_words a.rows.now a.row) (ap (λ x. eqb x 1) (sym c.row_byte.ensures) ∙ ne_eqb _ _ c.if-row_byte-ne1.true)

pub returns : goal.returns
unfolding both marked
returns c =
    and-shown (ap (λ x. eqb x 1) (sym c.row_byte.ensures) ∙ eq-eqb _ _ c.if-row_byte-ne1.false) c.row_in.ensures
