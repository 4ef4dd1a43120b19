-- `table_checks::wrong_mark` meets its contract, by what its callees ensure. Assumes nothing.
use borrow.Author.Tests.{le-ltb, lt-ltb}
use lib.Dec.{ltb}
use mathlib.Core.Path.{sym, ap, ◌∙◌}
use Rattle.star_spec.specs.Refusals.{wrong_byte}
use Rattle.rowset.specs.Words.{in_words}
use Rattle.table_checks.proofs.Laws.{and-refuted, and-shown}
use Rattle.table_checks.proofs.wrong_mark.Goals as goal

pub returns-then-row_byte-le1 : goal.returns-then-row_byte-le1
unfolding wrong_byte
returns-then-row_byte-le1 c =
    let a = c.args in
    and-refuted (in_words a.rows.now a.at) (ap (ltb 1) (sym c.row_byte.ensures) ∙ le-ltb _ _ c.if-row_byte-le1.true)

pub returns : goal.returns
unfolding wrong_byte
returns c =
    and-shown (ap (ltb 1) (sym c.row_byte.ensures) ∙ lt-ltb _ _ c.if-row_byte-le1.false) c.row_in.ensures
