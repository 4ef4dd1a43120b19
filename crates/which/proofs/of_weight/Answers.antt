-- `which::of_weight` meets its contract: the fields, written out. Assumes nothing.
use mathlib.Core.Path.{refl}
use Rattle.answer.specs.Records.{fields_of}
use Rattle.which.proofs.of_weight.Goals as goal

pub returns : goal.returns
unfolding fields_of
returns c = refl
