-- `search_join::keep_words` meets its contract: all columns are there, and no row stands past the words that are read. Assumes nothing.
use borrow.Author.Rules.{rules}
use native.Mathlib.Omega.{arith}
use Rattle.search_columns.proofs.Words.{narrowed-is}
use Rattle.search_join.proofs.keep_words.Goals as goal

pub returns : goal.returns
returns g c =
    record {
      rows = narrowed-is _ _ _ _ _ _ c.keep_rows.ensures.rows (omega arith) c.requires.2;
      size = search rules;
    }
