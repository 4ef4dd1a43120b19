-- `mend_groups::own_labels` meets its contract. The loop's invariant: the first i labels are 1 to i.
-- Assumes nothing.
use mathlib.Core.Path.{refl}
use native.Mathlib.Omega.{arith}
use Rattle.slice.proofs.Stores.{filled_none, filled_more, filled-all}
use Rattle.mend_groups.proofs.Groups.{labels-whole}
use Rattle.mend_groups.proofs.own_labels.Goals as goal

pub loop-i-init : goal.loop-i-init
loop-i-init c = filled_none refl

pub loop-i-preserved : goal.loop-i-preserved
loop-i-preserved c = filled_more c.loop-i.invariant (omega arith) refl

pub returns : goal.returns
returns c =
    let l = c.loop-i in record {
      stored = λ h. labels-whole _ _ l.invariant.full (filled-all l.invariant (omega arith));
      kept = λ h. absurd (omega arith);
    }
