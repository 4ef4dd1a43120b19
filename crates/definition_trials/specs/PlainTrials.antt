-- A plain table of exactly 1,024 rows: all of them are in use.
-- Assumes nothing.
use Rattle.std.specs.Prelude.{ℕ, List, ◌≡◌, length}
use Rattle.rowset.specs.Sets.{up_to}
use Rattle.star_spec.specs.Call.{used, call_of}

abbrev pub AllInUse : Type 0
AllInUse = (n : ℕ) (left right weight mark : List ℕ) → length left ≡ 1024 → used (call_of n left right weight mark) ≡ up_to (length left)
