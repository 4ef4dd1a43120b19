-- A line that is put at the start of a lent column, and its status.
-- Assumes nothing.
use Rattle.std.specs.Prelude.{ℕ, ◌≤◌, List, ◌≡◌, length}
use Rattle.decimal.specs.Puts.{Puts}
use Rattle.star_spec.specs.Cst.{Answer}
use Rattle.verdict_spec.specs.VerdictText.{verdict_line, status_of}

-- the verdict, the column before and after, the number of bytes and the status that are returned
pub record Told (a : Answer) (before after : List ℕ) (size status : ℕ) : Type 0 where
  pub puts : Puts before 0 (verdict_line a) after size
  -- a column of 48 bytes holds it whole
  pub short : length (verdict_line a) ≤ 48
  pub status-of : status ≡ status_of a
  pub few : status ≤ 2
