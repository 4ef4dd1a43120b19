-- `answer::bytes_of` meets its contract: the array is the list of the fields' bytes, written out, of which the amount's bits write back. Assumes nothing.
use mathlib.Core.Path.{refl}
use native.Mathlib.Omega.{arith}
use Rattle.answer.specs.Records.{fields_of}
use Rattle.rowset.proofs.Signed.{bits-again}
use Rattle.star_spec.specs.Door.{bytes_of, field_bytes}
use Rattle.answer.proofs.bytes_of.Goals as goal

pub returns : goal.returns
unfolding fields_of bytes_of field_bytes
returns c = rw (bits-again 64 c.args.x.amount (omega arith)) refl
