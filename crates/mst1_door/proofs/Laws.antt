-- What the doors of MST1 promise before their clause `means`, by whether the lent answer has sixteen bytes. Assumes nothing.
use Prim.Native.Nat.{ℕ}
use mathlib.Core.Bool.{true, false}
use mathlib.Core.List.{List}
use mathlib.Core.Path.{◌≡◌, refl, ap, ◌∙◌}
use Rattle.star_spec.specs.Call.{Call}
use Rattle.star_spec.specs.Door.{Fields, built_fields, answer_after, well_lent, door_returns, mst1_door, mst1_door_marks}
use Rattle.star_spec.specs.Mst1.{BuildAnswer, mst1, mst1_marks}

module _ (c : Call) (answer : List ℕ) where
  -- nothing is written where another answer is lent
  pub mst1-shut : well_lent answer ≡ false → (0 ≡ door_returns answer) × ((answer ≡ mst1_door c answer) × (c.mark ≡ mst1_door_marks c answer))
  unfolding door_returns mst1_door answer_after mst1_door_marks
  mst1-shut e = rw e (refl, (refl, refl))

  -- the fields of the tree are written, and its marks
  pub mst1-open : well_lent answer ≡ true → {after marks : List ℕ} {f : Fields} {b : BuildAnswer} → after ≡ answer_after answer f → f ≡ built_fields b → (b ≡ mst1 c) × (marks ≡ mst1_marks c)
      → (1 ≡ door_returns answer) × ((after ≡ mst1_door c answer) × (marks ≡ mst1_door_marks c answer))
  unfolding door_returns mst1_door mst1_door_marks
  mst1-open e written told (built, marked) = (rw e, (written ∙ ap (answer_after answer) (told ∙ ap built_fields built), rw e marked))
