-- `file_text::fields_of` meets its contract: a part that begins past its end or the text's has no fields. Assumes nothing.
use native.Mathlib.Omega.{arith}
use Rattle.file_text.proofs.Clipped.{none_read, clipped-read}
use Rattle.file_text.proofs.fields_of.Goals as goal

pub returns-then-high-from : goal.returns-then-high-from
returns-then-high-from c =
    none_read _ _ _ _ _ (omega (arith, c.min-high.ensures, c.if-high-from.true)) c.no_fields.ensures.1 c.no_fields.ensures.2

pub fields_in-requires : goal.fields_in-requires
fields_in-requires c = omega (arith, c.min-high.ensures, c.if-high-from.false)

pub returns : goal.returns
returns c = clipped-read _ _ _ _ _ _ c.min-high.ensures c.fields_in.ensures
