-- What the doors of districts promise before their clause `means`, by whether the lent answer has sixteen bytes. Assumes nothing.
use Prim.Native.Nat.{ℕ}
use mathlib.Core.Bool.{true, false}
use mathlib.Core.List.{List}
use mathlib.Core.Path.{◌≡◌, refl, ap, ◌∙◌}
use Rattle.districts_spec.specs.Door.{districts_door, districts_door_forests, districts_door_marks}
use Rattle.districts_spec.specs.Districts.{districts_answer, districts_forests, districts_marks}
use Rattle.star_spec.specs.Call.{Call}
use Rattle.star_spec.specs.Door.{Fields, built_fields, answer_after, well_lent, door_returns}
use Rattle.star_spec.specs.Mst1.{BuildAnswer}

module _ (c : Call) (F ends answer : List ℕ) where
  -- what the answer and the two columns are afterwards
  abbrev Left : (after forests marks : List ℕ) → Type 0
  Left after forests marks = (after ≡ districts_door c F ends answer) × (forests ≡ districts_door_forests c F ends answer) × (marks ≡ districts_door_marks c F ends answer)

  -- nothing is written where the answer has another length
  pub districts-shut : well_lent answer ≡ false → (0 ≡ door_returns answer) × Left answer F c.mark
  unfolding door_returns answer_after districts_door districts_door_forests districts_door_marks
  districts-shut e = rw e (refl, (refl, refl, refl))

  -- the fields of the answer and both columns are written
  pub districts-open : well_lent answer ≡ true → {after forests marks : List ℕ} {f : Fields} {b : BuildAnswer} → after ≡ answer_after answer f → f ≡ built_fields b
      → (b ≡ districts_answer c F ends) × (forests ≡ districts_forests c F ends) × (marks ≡ districts_marks c F ends) → (1 ≡ door_returns answer) × Left after forests marks
  unfolding door_returns districts_door districts_door_forests districts_door_marks
  districts-open e written fields (built, forests, marks) = rw e (refl, (written ∙ ap (answer_after answer) (fields ∙ ap built_fields built), forests, marks))
