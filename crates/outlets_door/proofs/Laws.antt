-- What the doors of connections at a vertex promise before their clause `means`, by whether the lent answer has sixteen bytes. Assumes nothing.
use Prim.Native.Nat.{ℕ}
use mathlib.Core.Bool.{true, false}
use mathlib.Core.List.{List}
use mathlib.Core.Path.{◌≡◌, refl, ap, ◌∙◌}
use Rattle.outlets_spec.specs.Door.{outlets_door, outlets_door_marks}
use Rattle.outlets_spec.specs.Outlets.{outlets, outlet_marks}
use Rattle.star_spec.specs.Call.{Call}
use Rattle.star_spec.specs.Door.{Fields, built_fields, answer_after, well_lent, door_returns}
use Rattle.star_spec.specs.Mst1.{BuildAnswer}

module _ (c : Call) (r t : ℕ) (answer : List ℕ) where
  -- nothing is written where the answer has another length
  pub outlets-shut : well_lent answer ≡ false → (0 ≡ door_returns answer) × ((answer ≡ outlets_door c r t answer) × (c.mark ≡ outlets_door_marks c r t answer))
  unfolding door_returns answer_after outlets_door outlets_door_marks
  outlets-shut e = rw e (refl, (refl, refl))

  -- the fields of the answer and the marks are written
  pub outlets-open : well_lent answer ≡ true → {after marks : List ℕ} {f : Fields} {b : BuildAnswer} → after ≡ answer_after answer f → f ≡ built_fields b
      → (b ≡ outlets c r t) × (marks ≡ outlet_marks c r t) → (1 ≡ door_returns answer) × ((after ≡ outlets_door c r t answer) × (marks ≡ outlets_door_marks c r t answer))
  unfolding door_returns outlets_door outlets_door_marks
  outlets-open e written fields (built, marks) = rw e (refl, (written ∙ ap (answer_after answer) (fields ∙ ap built_fields built), marks))
