-- `mend::row_out_lem` meets its contract: the heaviest row is heavier than row i, or it is not.
-- Assumes nothing.
use mathlib.Core.Path.{sym, ◌∙◌}
use Rattle.mend.proofs.Steps.{out-heavier, out_none}
use Rattle.mend.specs.Steps.Machine.{heaviest}
use Rattle.mend.proofs.row_out.Goals as goal

pub returns-then-flipped_weight : goal.returns-then-flipped_weight
unfolding heaviest
returns-then-flipped_weight c =
    let found = rw c.max_from.ensures at c.fnd-e.ensures in
    found ∙ sym (out-heavier _ _ _ _ (rw (c.flipped_weight.ensures, c.flipped_weight-2.ensures, found) at c.if-flipped_weight.true))

pub returns : goal.returns
unfolding heaviest
returns c =
    let found = rw c.max_from.ensures at c.fnd-e.ensures in
    sym (out_none _ _ _ _ (rw (c.flipped_weight.ensures, c.flipped_weight-2.ensures, found) at c.if-flipped_weight.false))
