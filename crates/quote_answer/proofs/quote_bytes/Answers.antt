-- `quote_answer::quote_bytes` meets its contract: the bytes of two records, of which the second has the total after for its amount. Assumes nothing.
use mathlib.Core.Path.{refl}
use Rattle.answer.specs.Records.{fields_of}
use Rattle.star_spec.specs.Door.{bytes_of, field_bytes}
use Rattle.quote_answer.proofs.quote_bytes.Goals as goal

pub returns : goal.returns
unfolding fields_of bytes_of field_bytes
returns c = rw (c.bytes_of-head.ensures, c.bytes_of-tail.ensures) refl
