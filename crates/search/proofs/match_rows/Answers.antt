-- `search::match_rows` meets its contract: the words are those of the table's columns, and a row is the number in all of them.
-- Assumes nothing.
use Rattle.table.specs.Tables.{row}
use Rattle.search.proofs.match_rows.Goals as goal

pub returns : goal.returns
unfolding row
returns c = rw c.columns_of-stored.ensures at c.match_from.ensures
