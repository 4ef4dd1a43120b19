-- `file_text::field_of` meets its contract: too short for quotes, none in front, none behind, or both. Assumes nothing.
use native.Mathlib.Omega.{arith}
use Rattle.file_text.proofs.Quotes.{short, no-open, no-close, quoted}
use Rattle.file_text.proofs.field_of.Goals as goal

pub returns-then-e-f : goal.returns-then-e-f
returns-then-e-f c =
    let t = c.trim-p.ensures in record {
      to_value = short _ _ _ _ t.to_value (omega (arith, t.bounds)) (omega (arith, t.bounds)) c.if-e-f.true;
      bounds = omega (arith, t.bounds);
    }

pub returns-then-text-f-ne34 : goal.returns-then-text-f-ne34
returns-then-text-f-ne34 c =
    let t = c.trim-p.ensures in record {
      to_value = no-open _ _ _ _ t.to_value (omega (arith, t.bounds)) c.if-e-f.false c.if-text-f-ne34.true;
      bounds = omega (arith, t.bounds);
    }

pub returns-then-text-e-ne34 : goal.returns-then-text-e-ne34
returns-then-text-e-ne34 c =
    let t = c.trim-p.ensures in record {
      to_value = no-close _ _ _ _ t.to_value (omega (arith, t.bounds)) c.if-e-f.false c.if-text-e-ne34.true;
      bounds = omega (arith, t.bounds);
    }

pub returns : goal.returns
returns c =
    let t = c.trim-p.ensures in
    let q = c.trim.ensures in record {
      to_value = quoted _ _ _ _ t.to_value (omega (arith, t.bounds)) c.if-e-f.false c.if-text-f-ne34.false c.if-text-e-ne34.false _ q.to_value;
      bounds = omega (arith, t.bounds, q.bounds, c.if-e-f.false);
    }
