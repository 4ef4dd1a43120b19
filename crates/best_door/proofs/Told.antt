-- What the doors of the best exchange promise before their clause `means`, by whether the lent answer has twenty-four bytes. Assumes nothing.
use Prim.Native.Nat.{ℕ}
use borrow.Author.Tests.{eq-eqb, ne_eqb}
use lib.IntN.{ℤ}
use lib.ListN.{length}
use mathlib.Core.Bool.{cond}
use mathlib.Core.List.{List, ◌++◌}
use mathlib.Core.Path.{◌≡◌, refl, ◌∙◌}
use Rattle.best_spec.specs.Best.{BestAnswer, best}
use Rattle.best_spec.specs.Door.{best_fields, least_of, best_bytes, lent_best, best_returns, best_door}
use Rattle.price_spec.specs.Door.{lent_quote}
use Rattle.rowset.specs.Integers.{to_bits}
use Rattle.star_spec.specs.Call.{Call}
use Rattle.star_spec.specs.Door.{Fields, bytes_of, field_bytes}

module _ (c : Call) (answer : List ℕ) where
  -- nothing is written into another answer
  pub best-shut : (length answer ≡ 24 → ⊥) → (0 ≡ best_returns answer) × (answer ≡ best_door c answer)
  unfolding best_returns lent_best best_door
  best-shut h = rw (ne_eqb (length answer) 24 h) (refl, refl)

  returned : length answer ≡ 24 → 1 ≡ best_returns answer
  unfolding best_returns lent_best
  returned h = rw (eq-eqb (length answer) 24 h)

  -- the fields and the least total are written
  pub best-open : length answer ≡ 24 → {after : List ℕ} {f : Fields} {z : ℤ} {a : BestAnswer} → after ≡ cond (lent_quote answer) (field_bytes f ++ bytes_of 8 (to_bits 64 z)) answer
      → (f ≡ best_fields a) × (z ≡ least_of a) → a ≡ best c → (1 ≡ best_returns answer) × (after ≡ best_door c answer)
  unfolding best_door best_bytes lent_best lent_quote
  best-open h written (first, last) told = (returned h, written ∙ rw (first, last, told))
