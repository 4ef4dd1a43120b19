-- `file_text::content_of` meets its contract. Assumes nothing.
use native.Mathlib.Omega.{arith}
use Rattle.file_spec.specs.Pieces.{is_byte}
use Rattle.file_text.proofs.Searches.{before-part, content-made}
use Rattle.file_text.proofs.content_of.Goals as goal

pub returns : goal.returns
returns c =
    let f = c.find_byte-e.ensures in record {
      to_value = content-made _ _ _ _ _ (before-part _ _ c.args.to (omega arith) (omega arith) (is_byte 35) _ f.value f.bounds.1) c.trim.ensures.to_value;
      bounds = omega (arith, f.bounds, c.trim.ensures.bounds);
    }
