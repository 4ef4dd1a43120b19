-- The exchange that is kept while the rows are looked at one by one. Assumes nothing.
use Rattle.std.specs.Prelude.{ℕ, zero, suc, ◌-◌, ◌≤◌, ltb, Bool, cond, List}
use Rattle.detour.specs.Steps.Machine.{dearest_in}
use Rattle.rowset.specs.Bytes.{in_row}
use Rattle.rowset.specs.Integers.{signed}
use Rattle.rowset.specs.Steps.Flipped.{flipped}
use Rattle.slice.specs.Slices.{size}
use Rattle.best.specs.declared.Pick.{Pick}

-- the row in, the row out and the saving; zeros where none saves
pub record Picked : Type 0 where
  pub row : ℕ
  pub out : ℕ
  pub saved : ℕ

abbrev pub pick_of : Pick → Picked
pick_of p = record { row = p.row; out = p.out; saved = p.saving }

-- both rows are of 0 to 1,024
abbrev pub Small : Picked → Type 0
Small p = (p.row ≤ size) × (p.out ≤ size)

-- an exchange in place of the one kept where it saves more
unfoldable pub better_of : Picked → (row out saved : ℕ) → Picked
better_of kept row out saved = cond (ltb kept.saved saved) (record { row = row; out = out; saved = saved }) kept

-- row i looked at, where it belongs to U and D gives the row that would go out
unfoldable pub look_at : (weight : List ℕ) → (D : ℕ → ℕ) → (U : ℕ → Bool) → Picked → ℕ → Picked
look_at weight D U kept i = cond (U i) (better_of kept i (D i) (flipped (in_row 4 weight (D i)) - flipped (in_row 4 weight i))) kept

-- rows 1 to k looked at
unfoldable pub looked : (weight : List ℕ) → (D : ℕ → ℕ) → (U : ℕ → Bool) → ℕ → Picked
looked weight D U zero = record { row = 0; out = 0; saved = 0 }
looked weight D U (suc k) = look_at weight D U (looked weight D U k) (suc k)

abbrev pub best_to : (weight own left right : List ℕ) → (U : ℕ → Bool) → ℕ → Picked
best_to weight own left right U = looked weight (dearest_in (λ k. signed (in_row 4 weight k)) own left right U) U
