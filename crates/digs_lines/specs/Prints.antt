-- A text that is put at the start of a lent column.
-- Assumes nothing.
use Rattle.std.specs.Prelude.{ℕ, ◌≤◌, length, take, drop, List, ◌++◌, ◌≡◌}
use Rattle.decimal.specs.Puts.{Puts}
use Rattle.digs_spec.specs.Meaning.{max_list}

-- the column before and after, the number that is returned, and the text
pub record Prints (before after : List ℕ) (size : ℕ) (text : List ℕ) : Type 0 where
  -- its bytes are put from the column's start on, as far as they fit, and their number is returned
  pub puts : Puts before 0 text after size
  -- a column of 6,370 bytes holds it whole
  pub short : length text ≤ max_list
  pub whole : max_list ≤ length before → take size after ≡ text
  pub size_of : max_list ≤ length before → size ≡ length text
  -- and keeps what it held behind it
  pub behind : max_list ≤ length before → after ≡ text ++ drop (length text) before
