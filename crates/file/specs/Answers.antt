-- What the code answers of a table file, and the lent columns, as the definitions have them.
-- Assumes nothing.
use Rattle.std.specs.Prelude.{ℕ, List, Result, Ok, Err}
use Rattle.file_spec.specs.Table.{Lent, FileAnswer, untaken, taken}
use Rattle.file_line.specs.declared.ReadError.{ReadError}
use Rattle.file.specs.declared.Sizes.{Sizes}

unfoldable pub answer_of : Result Sizes ReadError → FileAnswer
answer_of (Ok s) = taken s.n s.names s.rows
answer_of (Err e) = untaken e.number e.place

abbrev pub lent_of : (left right weight mark in_use starts ends rows : List ℕ) → Lent
lent_of left right weight mark in_use starts ends rows =
    record { left = left; right = right; weight = weight; mark = mark; in_use = in_use; starts = starts; ends = ends; rows = rows }
