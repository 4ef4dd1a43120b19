-- `table_checks::first_bad_row` meets its contract. The loop's invariant: none of the rows above row i has wrong ends.
-- Assumes nothing.
use native.Mathlib.Omega.{arith}
use Rattle.slice_words.proofs.Laws.{component-words}
use Rattle.table_checks.proofs.Laws.{passed_none, passed-more, passed-found, passed-all}
use Rattle.table_checks.proofs.first_bad_row.Goals as goal

pub loop-i-init : goal.loop-i-init
loop-i-init c = (omega arith, omega arith, passed_none _)

pub wrong_row-requires : goal.wrong_row-requires
wrong_row-requires c = tt

pub returns-then-wrong_row : goal.returns-then-wrong_row
returns-then-wrong_row c =
    rw component-words (passed-found _ _ _ (omega arith) (omega arith) c.loop-i.invariant.2 (rw c.wrong_row.ensures at c.if-wrong_row.true))

pub loop-i-preserved : goal.loop-i-preserved
loop-i-preserved c =
    (omega arith, omega arith, passed-more _ _ c.loop-i.invariant.2 (rw c.wrong_row.ensures at c.if-wrong_row.false))

pub returns : goal.returns
returns c = rw component-words (passed-all _ _ _ (omega arith) c.loop-i.invariant.2)
