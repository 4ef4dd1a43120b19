-- `stp::rows_check` meets its contract: the lent columns' lengths, and then the rows by the table's own check. Assumes nothing.
use Prim.Native.Nat.{◌≤◌}
use borrow.Author.Tests.{ne_eqb}
use lib.Seq.{length-take-le}
use mathlib.Core.Bool.{or-true}
use mathlib.Core.Logic.{⊎_elim}
use mathlib.Core.Path.{sym, ◌∙◌}
use native.Mathlib.Omega.{arith}
use Rattle.refusal.specs.Outcomes.{refusal_of}
use Rattle.star_spec.proofs.Accepted.{none-cons}
use Rattle.stp_spec.specs.Import.{table_of}
use Rattle.stp_reader.specs.Readings.{read_of}
use Rattle.stp.proofs.Importing.{few-rows, table-rows, columns-right, columns-first}
use Rattle.stp.proofs.rows_check.Goals as goal
use Rattle.stp.proofs.rows_check.Goals.{Start}

-- there are at most 1,024 rows, so each part is inside its column
rows : (c : Start) → c.args.table.now.rows ≤ 1024
rows c =
    few-rows _ _ c.requires.0

pub returns-then-l-ne-ROWS : goal.returns-then-l-ne-ROWS
unfolding refusal_of
returns-then-l-ne-ROWS c =
    rw c.of.ensures
    (columns-first _ _ _ _ (⊎_elim (λ w. simp (ne_eqb _ _ w.if-l-ne-ROWS.true)) (⊎_elim (λ w. simp (ne_eqb _ _ w.if-r-ne-ROWS.true, or-true)) (λ w. simp (ne_eqb _ _ w.if-w-ne-WEIGHT_BYTES.true, or-true))) c.then-l-ne-ROWS.branch-raw))

pub overflow_mul-end : goal.overflow_mul-end
overflow_mul-end c = let few = rows (goal.at.overflow_mul-end c).Start in record { fits = omega arith }

pub shared_ref_as_front-table_check : goal.shared_ref_as_front-table_check
shared_ref_as_front-table_check c = rows (goal.at.shared_ref_as_front-table_check c).Start

pub returns : goal.returns
unfolding table_of read_of
returns c =
    let p = c.requires in
    let few = few-rows _ _ p.0 in
    c.table_check.ensures
    ∙ table-rows _ _ p.0 _ _ _ (length-take-le _ _ (omega arith)) (length-take-le _ _ (omega arith)) (length-take-le _ _ (omega arith)) _ c.rows_to.ensures
    ∙ sym (none-cons _ _ (columns-right _ _ _ c.if-l-ne-ROWS.false c.if-r-ne-ROWS.false c.if-w-ne-WEIGHT_BYTES.false))
