-- `file_text::trim` meets its contract. Assumes nothing.
use native.Mathlib.Omega.{arith}
use Rattle.file_text.proofs.Trims.{trim-made}
use Rattle.file_text.proofs.trim.Goals as goal

pub returns : goal.returns
returns c =
    record {
      to_value = trim-made _ _ _ _ _ c.back-e.ensures.result_value c.front-f.ensures.to_value;
      bounds = omega (arith, c.back-e.ensures.bounds, c.front-f.ensures.bounds);
    }
