-- The door of the reader: the sixteen bytes of its answer, and the lent columns afterwards.
-- Assumes nothing.
use Rattle.std.specs.Prelude.{ℕ, cond, List, pos}
use Rattle.rowset.specs.Integers.{from_bits}
use Rattle.star_spec.specs.Door.{Fields, well_lent, answer_after}
use Rattle.file_spec.specs.Table.{Lent, FileAnswer, untaken, taken, file_answer, lent_after}

-- kind 0 is refused, with the number and, in bytes 8 to 15, the place, which two bytes do not hold; kind 1 is read, with the number of names in bytes 2 and 3,
-- the number of rows in bytes 4 and 5, and n in bytes 8 to 15, since a line junctions N may say any number
unfoldable pub file_fields : FileAnswer → Fields
file_fields (untaken number place) = record { kind = 0; number = number; out = 0; into = 0; only = 0; amount = from_bits 64 place }
file_fields (taken n names rows) = record { kind = 1; number = 0; out = names; into = rows; only = 0; amount = pos n }

unfoldable pub file_door : List ℕ → Lent → List ℕ → List ℕ
file_door text l answer = answer_after answer (file_fields (file_answer text l))

-- an answer of another length than sixteen bytes leaves the columns as they were
unfoldable pub file_door_lent : List ℕ → Lent → List ℕ → Lent
file_door_lent text l answer = cond (well_lent answer) (lent_after text l) l
