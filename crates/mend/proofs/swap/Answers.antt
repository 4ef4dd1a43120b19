-- `mend::swap` meets its contract, by what its calls ensure.
-- Assumes nothing.
use Rattle.mend_groups.specs.Steps.Machine.{noted}
use Rattle.mend.specs.Steps.Machine.{swapped}
use Rattle.mend.proofs.swap.Goals as goal

pub returns : goal.returns
unfolding noted swapped
returns c = cc
