-- What is read from a path matrix: the path of a row, its dearest row, and the row that replaces a row; the row that is visited next; and a number put at the rows of a slice. Assumes nothing.
use Rattle.std.specs.Prelude.{ℕ, ℤ, length, Bool, cond, ◌&&◌, List, ◌≡◌}
use Rattle.detour_spec.specs.Detours.{number_at}
use Rattle.path_matrix.specs.Matrix.{matrix_column}
use Rattle.rowset.specs.Bytes.{in_row}
use Rattle.rowset.specs.Integers.{signed}
use Rattle.rowset.specs.Searches.{smallest, largest}
use Rattle.rowset.specs.Sets.{one_of, any, uppermost}
use Rattle.slice.specs.Slices.{size}

-- the rows on the path between row i's ends: the xor of their columns
unfoldable pub path_in : (own left right : List ℕ) → ℕ → ℕ → Bool
path_in own left right i = one_of (matrix_column own (in_row 1 left i)) (matrix_column own (in_row 1 right i))

-- the uppermost of the heaviest of them, where row i belongs to U; else 0
unfoldable pub dearest_in : (ℕ → ℤ) → (own left right : List ℕ) → (ℕ → Bool) → ℕ → ℕ
dearest_in w own left right U i = cond (U i) (uppermost size (largest size w (path_in own left right i))) 0

-- the rows of U whose path has row e, and the uppermost of the lightest of them
unfoldable pub around_in : (own left right : List ℕ) → (ℕ → Bool) → ℕ → ℕ → Bool
around_in own left right U e f = U f && path_in own left right f e

unfoldable pub replaced_in : (ℕ → ℤ) → (own left right : List ℕ) → (ℕ → Bool) → ℕ → ℕ
replaced_in w own left right U e = uppermost size (smallest size w (around_in own left right U e))

-- the row that is visited next: the uppermost of the lightest of x, while y has a row
unfoldable pub next_in : (ℕ → ℤ) → (x y : ℕ → Bool) → ℕ
next_in w x y = cond (any size y) (uppermost size (smallest size w x)) 0

-- the number of row i, of the marked rows M the replacement and of the rows of U the dearest
unfoldable pub beside_in : (weight own left right : List ℕ) → (U M : ℕ → Bool) → ℕ → ℕ
beside_in weight own left right U M i =
    cond (M i) (replaced_in (λ k. signed (in_row 4 weight k)) own left right U i) (dearest_in (λ k. signed (in_row 4 weight k)) own left right U i)

-- a number put at the rows of H, and every other as it was
pub record Put (H : ℕ → Bool) (number : ℕ) (old new : List ℕ) : Type 0 where
  pub full : length new ≡ length old
  pub numbers : (i : ℕ) → number_at new i ≡ cond (H i) number (number_at old i)
