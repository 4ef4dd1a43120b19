-- `path::claim_walk` meets its contract, by what its calls ensure.
-- Assumes nothing.
use mathlib.Core.Path.{◌∙◌}
use Rattle.path.proofs.claim_walk.Goals as goal

pub returns : goal.returns
returns c =
    record {
      answer = rw (c.joined_check.ensures, c.walk-reached.ensures.reached, c.claim_rows-marked.ensures, c.rows_among.ensures);
      words = c.walk-reached.ensures.words ∙ rw (c.claim_rows-marked.ensures, c.rows_among.ensures);
    }
