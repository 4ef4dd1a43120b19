-- `search_join::match_ends` meets its contract: it is MATCH in the last eight columns. Assumes nothing.
use Rattle.search_join.proofs.match_ends.Goals as goal

pub returns : goal.returns
returns c =
    record {
      rows = c.match_into.ensures.rows;
      size = c.match_into.ensures.size;
    }
