-- What the doors of mending promise, by whether the lent answer has sixteen bytes. Assumes nothing.
use Prim.Native.Nat.{ℕ}
use lib.ListN.{length}
use mathlib.Core.Bool.{true, false}
use mathlib.Core.List.{List}
use mathlib.Core.Path.{◌≡◌, refl, ap, ◌∙◌}
use Rattle.mend_record.specs.declared.Record.{Record}
use Rattle.mend_door.specs.Told.{records_of, mend_door_count}
use Rattle.mend_spec.specs.Door.{mend_fields, mend_door, mend_door_marks, mend_door_list}
use Rattle.mend_spec.specs.Mend.{MendAnswer, mend, mend_marks, mend_list}
use Rattle.star_spec.specs.Call.{Call}
use Rattle.star_spec.specs.Door.{answer_after, well_lent, door_returns}

module _ (c : Call) (records : List Record) (answer : List ℕ) where
  -- the number returned, the bytes, the marks, the list and how many records of it were written
  abbrev Answered : (returned : ℕ) (after marks : List ℕ) (list : List Record) (count : ℕ) → Type 0
  Answered returned after marks list count =
      (returned ≡ door_returns answer) × (after ≡ mend_door c (length records) answer) × (marks ≡ mend_door_marks c (length records) answer) × (list ≡ mend_door_list c records answer) × (count ≡ mend_door_count c (length records) answer)

  -- nothing is written where the answer has another length
  pub mend-shut : well_lent answer ≡ false → Answered 0 answer c.mark records 0
  unfolding door_returns answer_after mend_door mend_door_marks mend_door_list mend_door_count
  mend-shut e = rw e (refl, refl, refl, refl, refl)

  -- what was mended is told
  pub mend-open : well_lent answer ≡ true → {a : MendAnswer} {after marks : List ℕ} {list : List Record} {count : ℕ} → (a ≡ mend c (length records)) × (marks ≡ mend_marks c (length records)) × (list ≡ mend_list c records)
      → after ≡ answer_after answer (mend_fields a) → count ≡ records_of a → Answered 1 after marks list count
  unfolding door_returns mend_door mend_door_marks mend_door_list mend_door_count
  mend-open e (mended, marks, list) bytes count = rw e (refl, bytes ∙ ap (answer_after answer) (ap mend_fields mended), marks, list, count ∙ ap records_of mended)
