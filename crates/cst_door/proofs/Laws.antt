-- What the doors of CST promise before their clause `means`, by whether the lent answer has sixteen bytes: for the verdict and for the verdict with the exchange. Assumes nothing.
use Prim.Native.Nat.{ℕ}
use mathlib.Core.Bool.{true, false}
use mathlib.Core.List.{List}
use mathlib.Core.Path.{◌≡◌, refl, ap, ◌∙◌}
use Rattle.star_spec.specs.Call.{Call}
use Rattle.star_spec.specs.Cst.{Answer, cst, EqualRows, equal_rows}
use Rattle.star_spec.specs.Door.{Fields, fields, fields_beside, other_fields, answer_after, well_lent, door_returns, cst_door, other_door}

module _ (c : Call) (answer : List ℕ) where
  -- nothing is written into another answer
  pub cst-shut : well_lent answer ≡ false → (0 ≡ door_returns answer) × (answer ≡ cst_door c answer)
  unfolding door_returns cst_door answer_after
  cst-shut e = rw e (refl, refl)

  pub other-shut : well_lent answer ≡ false → (0 ≡ door_returns answer) × (answer ≡ other_door c answer)
  unfolding door_returns other_door answer_after
  other-shut e = rw e (refl, refl)

  module _ {after : List ℕ} {f : Fields} (e : well_lent answer ≡ true) (written : after ≡ answer_after answer f) where
    -- the fields of the verdict are written
    pub cst-open : {v : Answer} → f ≡ fields v → v ≡ cst c → (1 ≡ door_returns answer) × (after ≡ cst_door c answer)
    unfolding door_returns cst_door
    cst-open told verdict = (rw e, written ∙ ap (answer_after answer) (told ∙ ap fields verdict))

    -- and those of the exchange beside it
    pub other-open : {v : Answer} {x : EqualRows} → f ≡ fields_beside v x → (v ≡ cst c) × (x ≡ equal_rows c) → (1 ≡ door_returns answer) × (after ≡ other_door c answer)
    unfolding door_returns other_door other_fields
    other-open told (verdict, rows) = (rw e, written ∙ ap (answer_after answer) (told ∙ rw (verdict, rows)))
