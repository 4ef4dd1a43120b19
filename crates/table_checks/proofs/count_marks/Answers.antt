-- `table_checks::count_marks` meets its contract. The loop's invariant: `marks` is the number of marked rows of 1 to i.
-- Assumes nothing.
use mathlib.Core.Path.{◌≡◌, sym, ◌∙◌}
use native.Mathlib.Omega.{arith}
use Rattle.rowset.specs.Sets.{both}
use Rattle.rowset.proofs.Laws.{count-bound}
use Rattle.slice_words.proofs.Laws.{component-words}
use Rattle.rowset.specs.Words.{in_words}
use Rattle.star_spec.specs.Call.{marked}
use Rattle.table_checks.proofs.Laws.{count-zero, count-in, count-out}
use Rattle.table_checks.proofs.count_marks.Goals as goal
use Rattle.table_checks.proofs.count_marks.Goals.{then-marked_row, else-marked_row}

pub loop-i-init : goal.loop-i-init
loop-i-init c = (omega arith, count-zero _)

pub marked_row-requires : goal.marked_row-requires
marked_row-requires c = tt

pub overflow_add-marks : goal.overflow_add-marks
overflow_add-marks c =
    let a = c.args in
    omega (arith, count-bound c.loop-i.i (both (in_words a.rows.words) (marked a.mark.now)))

pub loop-i-preserved : goal.loop-i-preserved
loop-i-preserved c = (
  omega arith,
  elim c.if-marked_row.branch [
    | then-marked_row w ↦ (cc) ∙ count-in _ _ (sym c.marked_row.ensures ∙ w.if-marked_row.true)
    | else-marked_row w ↦ (cc) ∙ count-out _ _ (sym c.marked_row.ensures ∙ w.if-marked_row.false)
  ],
)

pub returns : goal.returns
returns c =
    let e : c.loop-i.i ≡ c.args.m = omega arith in
    rw component-words (rw e at c.loop-i.invariant.1)
