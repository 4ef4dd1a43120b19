-- `search::min` meets its contract: the words are those of the table's columns, and a row is the number in all of them.
-- Assumes nothing.
use Rattle.rowset.specs.Integers.{integer_in}
use Rattle.table.specs.Tables.{row}
use Rattle.search.proofs.min.Goals as goal

pub returns : goal.returns
unfolding row integer_in
returns c = rw c.columns_of-stored.ensures at c.min_from.ensures
