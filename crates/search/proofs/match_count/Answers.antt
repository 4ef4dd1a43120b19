-- `search::match_count` meets its contract: the words are those of the table's columns, and a row is the number in all of them.
-- Assumes nothing.
use native.Mathlib.Omega.{arith}
use mathlib.Core.Path.{◌∙◌}
use Rattle.rowset.specs.Counts.{columns_read}
use Rattle.search_match.proofs.Counts.{right-row}
use Rattle.search.proofs.match_count.Goals as goal

pub returns : goal.returns
unfolding columns_read
returns c =
    let e = c.columns_of-stored.ensures in record {
      rows = c.match_right.ensures.rows ∙ rw e (right-row _ _ _ (omega arith));
      read = c.match_right.ensures.read ∙ rw e;
    }
