-- The door of the import: the sixteen bytes of its answer, and the lent columns afterwards. A place can be 65,536, which two bytes do not hold, so it stands in the last eight.
-- Assumes nothing.
use Rattle.std.specs.Prelude.{ℕ, cond, List, pos, length}
use Rattle.star_spec.specs.Door.{Fields, well_lent, answer_after}
use Rattle.stp_spec.specs.Import.{ImportAnswer, untaken, taken, imported, left_after, right_after, weight_after}

-- kind 0 is refused, with the number and, in bytes 8 to 15, the place; kind 1 is read, with n in bytes 2 and 3 and m in bytes 4 and 5
unfoldable pub import_fields : ImportAnswer → Fields
import_fields (untaken r) = record { kind = 0; number = r.number; out = 0; into = 0; only = 0; amount = pos r.place }
import_fields (taken n m) = record { kind = 1; number = 0; out = n; into = m; only = 0; amount = pos 0 }

unfoldable pub import_door : List ℕ → List ℕ → List ℕ → List ℕ → List ℕ → List ℕ
import_door text left right weight answer = answer_after answer (import_fields (imported text (length left) (length right) (length weight)))

-- each lent column after the call; an answer of another length than sixteen bytes leaves them as they were
unfoldable pub left_door : List ℕ → List ℕ → List ℕ → List ℕ → List ℕ → List ℕ
left_door text left right weight answer = cond (well_lent answer) (left_after text left right weight) left

unfoldable pub right_door : List ℕ → List ℕ → List ℕ → List ℕ → List ℕ → List ℕ
right_door text left right weight answer = cond (well_lent answer) (right_after text left right weight) right

unfoldable pub weight_door : List ℕ → List ℕ → List ℕ → List ℕ → List ℕ → List ℕ
weight_door text left right weight answer = cond (well_lent answer) (weight_after text left right weight) weight
