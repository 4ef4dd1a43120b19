-- `search_join::join` meets its contract, by what its calls ensure: no row that MATCH gives stands past the words that are read. Assumes nothing.
use native.Mathlib.Omega.{arith}
use Rattle.search_join.proofs.Joining.{copied, first_past, right-past, right-joined, read_same}
use Rattle.search_join.proofs.join.Goals as goal

pub narrow-read-requires : goal.narrow-read-requires
narrow-read-requires g c =
    let first = copied g.row.N _ c.args.rows.now c.requires (omega arith) c.copy_from_slice.ensures.after in
    (c.requires, first_past g.row.N _ _ first)

pub put_words-requires : goal.put_words-requires
put_words-requires g c =
    let first = copied g.row.N _ c.args.rows.now c.requires (omega arith) c.copy_from_slice.ensures.after in
    (c.requires, right-past g.row.N _ _ _ _ _ c.narrow-read.ensures.rows (first_past g.row.N _ _ first))

pub returns : goal.returns
returns g c =
    let first = copied g.row.N _ c.args.rows.now c.requires (omega arith) c.copy_from_slice.ensures.after in record {
      rows = right-joined _ _ _ _ _ first c.narrow-read.ensures.rows c.put_words.ensures.rows;
      size = c.put_words.ensures.size;
      read = read_same _ _ _ _ _ first c.narrow-read.ensures.read;
    }
