-- `groups::join` meets its contract: the columns are turned over, and the labels renamed.
-- Assumes nothing.
use Rattle.groups.proofs.join.Goals as goal

pub returns : goal.returns
returns c =
    record {
      labels = c.rename_all.ensures;
      own = c.turn_columns.ensures;
    }
