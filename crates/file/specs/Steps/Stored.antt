-- The lent columns over which what was read is stored.
-- Assumes nothing.
use Rattle.std.specs.Prelude.{ℕ, ◌*◌, List, ◌++◌, map, ◌≡◌, length, take, drop}
use Rattle.rowset.specs.Words.{column_words, column_words_from}
use Rattle.file_spec.specs.Table.{Lent, unstruck}
use Rattle.file_reader.specs.Steps.State.{is_one}

-- each column has its length
pub record Fitting (x : Lent) : Type 0 where
  pub lefts : length x.left ≡ 1024
  pub rights : length x.right ≡ 1024
  pub weights : length x.weight ≡ 4096
  pub marks : length x.mark ≡ 1024
  pub words : length x.in_use ≡ column_words
  pub starts-sized : length x.starts ≡ 255
  pub ends-sized : length x.ends ≡ 255
  pub lines : length x.rows ≡ 1024

-- the first rows and names of each column, and below them what it held
unfoldable pub stored : (names m : ℕ) → (from to lefts rights weights marks struck at : List ℕ) → Lent → Lent
stored names m from to lefts rights weights marks struck at x =
    record {
      left = take m lefts ++ drop m x.left;
      right = take m rights ++ drop m x.right;
      weight = take (4 * m) weights ++ drop (4 * m) x.weight;
      mark = take m marks ++ drop m x.mark;
      in_use = column_words_from (unstruck (map is_one (take m struck))) 0 column_words;
      starts = take names from ++ drop names x.starts;
      ends = take names to ++ drop names x.ends;
      rows = take m at ++ drop m x.rows;
    }
