-- What the doors of the breaking price promise before their clause `means`, by whether the lent answer has sixteen bytes. Assumes nothing.
use Prim.Native.Nat.{ℕ}
use mathlib.Core.Bool.{true, false}
use mathlib.Core.List.{List}
use mathlib.Core.Path.{◌≡◌, refl, ap, ◌∙◌}
use Rattle.breaking.proofs.Answers.{told-price}
use Rattle.breaking.specs.Steps.Routes.{Said, said, told}
use Rattle.price_spec.specs.Breaking.{BreakingAnswer}
use Rattle.price_spec.specs.Door.{breaking_fields, breaking_door}
use Rattle.star_spec.specs.Call.{Call}
use Rattle.star_spec.specs.Door.{Fields, answer_after, well_lent, door_returns}

module _ (c : Call) (k : ℕ) (answer : List ℕ) where
  -- nothing is written into another answer
  pub breaking-shut : well_lent answer ≡ false → (0 ≡ door_returns answer) × (answer ≡ breaking_door c k answer)
  unfolding door_returns breaking_door answer_after
  breaking-shut e = rw e (refl, refl)

  -- the fields of what is told of what the trees say are written
  pub breaking-open : well_lent answer ≡ true → {after : List ℕ} {f : Fields} {b : BreakingAnswer} {x : Said} → after ≡ answer_after answer f → f ≡ breaking_fields b
      → b ≡ told c.n c.left c.right c.weight k x → x ≡ said c k → (1 ≡ door_returns answer) × (after ≡ breaking_door c k answer)
  unfolding door_returns breaking_door
  breaking-open e written fields price trees = (rw e, written ∙ ap (answer_after answer) (fields ∙ ap breaking_fields (price ∙ ap (told c.n c.left c.right c.weight k) trees ∙ told-price c k)))
