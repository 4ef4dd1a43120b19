-- `districts::runs_check` meets its contract, by its two tests. Assumes nothing.
use borrow.Author.Tests.{lt-ltb, le-ltb}
use Rattle.districts_spec.specs.Districts.{bad_runs}
use Rattle.districts.proofs.runs_check.Goals as goal
use Rattle.districts.proofs.runs_check.Goals.{then-ends-gt-MAX_ENDS, else-ends-gt-MAX_ENDS}

pub returns : goal.returns
unfolding bad_runs
returns c =
    rw c.refused_if.ensures
    (elim c.if-ends-gt-MAX_ENDS.branch [
      | then-ends-gt-MAX_ENDS w ↦ rw (w.refused_if-is, lt-ltb _ _ w.if-ends-gt-MAX_ENDS.true)
      | else-ends-gt-MAX_ENDS w ↦ rw (w.refused_if-is, c.ends_rise-rising.ensures, le-ltb _ _ w.if-ends-gt-MAX_ENDS.false)
    ])
