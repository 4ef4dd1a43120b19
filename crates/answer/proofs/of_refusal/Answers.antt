-- `answer::of_refusal` meets its contract: the fields, written out. Assumes nothing.
use mathlib.Core.Path.{refl}
use Rattle.answer.specs.Records.{fields_of}
use Rattle.rowset.specs.Integers.{from_bits}
use Rattle.star_spec.specs.Door.{fields}
use Rattle.answer.proofs.of_refusal.Goals as goal

pub returns : goal.returns
unfolding fields_of fields from_bits
returns c = refl
