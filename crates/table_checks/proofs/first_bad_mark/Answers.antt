-- `table_checks::first_bad_mark` meets its contract. The loop's invariant: none of the rows above row `at` has a byte other than 0 and 1.
-- Assumes nothing.
use native.Mathlib.Omega.{arith}
use Rattle.slice_words.proofs.Laws.{component-words}
use Rattle.table_checks.proofs.Laws.{passed_none, passed-more, passed-found, passed-all}
use Rattle.table_checks.proofs.first_bad_mark.Goals as goal

pub loop-at-init : goal.loop-at-init
loop-at-init c = (omega arith, omega arith, passed_none _)

pub wrong_mark-requires : goal.wrong_mark-requires
wrong_mark-requires c = tt

pub returns-then-wrong_mark : goal.returns-then-wrong_mark
returns-then-wrong_mark c =
    rw component-words (passed-found _ _ _ (omega arith) (omega arith) c.loop-at.invariant.2 (rw c.wrong_mark.ensures at c.if-wrong_mark.true))

pub loop-at-preserved : goal.loop-at-preserved
loop-at-preserved c =
    (omega arith, omega arith, passed-more _ _ c.loop-at.invariant.2 (rw c.wrong_mark.ensures at c.if-wrong_mark.false))

pub returns : goal.returns
returns c = rw component-words (passed-all _ _ _ (omega arith) c.loop-at.invariant.2)
