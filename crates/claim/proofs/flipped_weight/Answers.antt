-- `claim::flipped_weight` meets its contract. Assumes nothing.
use Rattle.rowset.specs.Steps.Flipped.{flipped}
use Rattle.claim.proofs.flipped_weight.Goals as goal

pub returns : goal.returns
unfolding flipped
returns c = cc
