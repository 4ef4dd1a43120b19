-- Mending at the door: the sixteen bytes, the claim and the list after the call.
-- Assumes nothing.
use Rattle.std.specs.Prelude.{pos, cond, List, ℕ}
use Rattle.mend_record.specs.declared.Record.{Record}
use Rattle.star_spec.specs.Call.{Call}
use Rattle.star_spec.specs.Door.{Fields, answer_after, well_lent}
use Rattle.mend_spec.specs.Mend.{MendAnswer, unmended, mended_by, mend, mend_marks, mend_list}

-- kind 1 and the number of records, or the refusal
unfoldable pub mend_fields : MendAnswer → Fields
mend_fields (unmended r) = record { kind = 0; number = r.number; out = r.place; into = 0; only = 0; amount = pos 0 }
mend_fields (mended_by records) = record { kind = 1; number = 0; out = 0; into = 0; only = 0; amount = pos records }

-- the lent answer afterwards, where the lent list has so many records
unfoldable pub mend_door : Call → (records : ℕ) → List ℕ → List ℕ
mend_door c records answer = answer_after answer (mend_fields (mend c records))

-- the claim and the list afterwards: as they were where the lent answer has not sixteen bytes
unfoldable pub mend_door_marks : Call → (records : ℕ) → List ℕ → List ℕ
mend_door_marks c records answer = cond (well_lent answer) (mend_marks c records) c.mark

unfoldable pub mend_door_list : Call → List Record → List ℕ → List Record
mend_door_list c l answer = cond (well_lent answer) (mend_list c l) l
