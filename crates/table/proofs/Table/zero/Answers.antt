-- `table::Table::zero` meets its contract. Assumes nothing.
use Rattle.table.proofs.Laws.{columns-of-zero, rows-of-empty}
use Rattle.table.proofs.Table.zero.Goals as goal

pub returns : goal.returns
returns c =
    record {
      columns = columns-of-zero;
      rows = rows-of-empty _ columns-of-zero;
    }
