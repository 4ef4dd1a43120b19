-- The records that a call of the mender's doors writes: the first of the lent list.
-- Assumes nothing.
use Rattle.std.specs.Prelude.{ℕ, cond, List}
use Rattle.mend_spec.specs.Mend.{MendAnswer, unmended, mended_by, mend}
use Rattle.star_spec.specs.Call.{Call}
use Rattle.star_spec.specs.Door.{well_lent}

-- how many records were written; a refusal writes none
unfoldable pub records_of : MendAnswer → ℕ
records_of (unmended r) = 0
records_of (mended_by records) = records

-- how many a call writes, where the lent list has so many records; none where the lent answer has not sixteen bytes
unfoldable pub mend_door_count : Call → (records : ℕ) → List ℕ → ℕ
mend_door_count c records answer = cond (well_lent answer) (records_of (mend c records)) 0
