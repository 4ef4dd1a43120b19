-- `path_exchange::path_of` meets its contract, by what its calls ensure. Assumes nothing.
use Rattle.path_exchange.proofs.path_of.Goals as goal

pub returns : goal.returns
returns c =
    rw (c.xor.ensures, c.read_column-2.ensures, c.read_column.ensures, c.row_byte-b.ensures, c.row_byte-a.ensures)
