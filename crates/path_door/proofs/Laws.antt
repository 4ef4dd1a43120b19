-- What the doors of MatrixPath promise before their clause `means`, by whether the lent answer has sixteen bytes. Assumes nothing.
use Prim.Native.Nat.{ℕ}
use mathlib.Core.Bool.{true, false}
use mathlib.Core.List.{List}
use mathlib.Core.Option.{Option}
use mathlib.Core.Path.{◌≡◌, refl, ap, ◌∙◌}
use Rattle.refusal.specs.declared.Refusal.{Refusal}
use Rattle.star_spec.specs.Call.{Call}
use Rattle.star_spec.specs.Door.{Fields, answer_after, well_lent, door_returns, outcome_fields, paths_door, paths_door_matrix}
use Rattle.star_spec.specs.MatrixPath.{matrix_path, matrix_after}

module _ (c : Call) (s : ℕ) (R answer : List ℕ) where
  -- nothing is written anywhere
  pub unwritten : well_lent answer ≡ false → (0 ≡ door_returns answer) × ((answer ≡ paths_door c s R answer) × (R ≡ paths_door_matrix c s R answer))
  unfolding door_returns paths_door answer_after paths_door_matrix
  unwritten e = rw e (refl, (refl, refl))

  -- the fields of the outcome are written, and the matrix is MatrixPath's
  pub answered : well_lent answer ≡ true → {after matrix : List ℕ} {f : Fields} {o : Option Refusal} → after ≡ answer_after answer f → f ≡ outcome_fields o → (o ≡ matrix_path c s R) × (matrix ≡ matrix_after c s R)
      → (1 ≡ door_returns answer) × ((after ≡ paths_door c s R answer) × (matrix ≡ paths_door_matrix c s R answer))
  unfolding door_returns paths_door paths_door_matrix
  answered e written told (outcome, filled) = (rw e, (written ∙ ap (answer_after answer) (told ∙ ap outcome_fields outcome), filled ∙ rw e))
