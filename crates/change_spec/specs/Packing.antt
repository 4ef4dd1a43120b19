-- Packing: a column whose rows in use are moved to the top in their order and whose other rows are cleared, and the numbers that say where each row went.
-- Assumes nothing.
use Rattle.std.specs.Prelude.{ℕ, zero, suc, ◌+◌, ◌-◌, ◌*◌, ◌/◌, Bool, cond, List, [], ◌∷◌, ◌++◌, length, replicate, take, drop}
use Rattle.rowset.specs.Sets.{count}
use Rattle.star_spec.specs.Door.{bytes_of}

-- the elements of a list, counted from i, whose index belongs to p, in their order
unfoldable pub kept_from : (ℕ → Bool) → ℕ → List ℕ → List ℕ
kept_from p i [] = []
kept_from p i (x ∷ l) = cond (p i) (x ∷ kept_from p (suc i) l) (kept_from p (suc i) l)

-- whether byte b of a column with k bytes a row, counted from 0, is in a row of X
abbrev pub of_rows : (ℕ → Bool) → ℕ → ℕ → Bool
of_rows X k b = X (b / k + 1)

-- the bytes of the rows of X in their order
unfoldable pub kept_rows : (ℕ → Bool) → ℕ → List ℕ → List ℕ
kept_rows X k l = kept_from (of_rows X k) 0 l

-- the packed column with k bytes a row: the bytes of the rows of X in their order, and 0 in the place of all that follows
unfoldable pub packed : (ℕ → Bool) → ℕ → List ℕ → List ℕ
packed X k l = kept_rows X k l ++ replicate (length l - length (kept_rows X k l)) 0

-- a row's new position: the number of rows of X up to it; 0 for a row that is not in X
unfoldable pub new_number : (ℕ → Bool) → ℕ → ℕ
new_number X i = cond (X i) (count i X) 0

-- a row's own position; 0 for a row that is not in X
unfoldable pub own_number : (ℕ → Bool) → ℕ → ℕ
own_number X i = cond (X i) i 0

-- the numbers of the k rows after row i
unfoldable pub numbers_from : (ℕ → ℕ) → ℕ → ℕ → List ℕ
numbers_from f i zero = []
numbers_from f i (suc k) = f (suc i) ∷ numbers_from f (suc i) k

-- the greatest position of 1 to m that belongs, 0 if there is none
unfoldable pub lowermost : ℕ → (ℕ → Bool) → ℕ
lowermost zero p = 0
lowermost (suc m) p = cond (p (suc m)) (suc m) (lowermost m p)

-- a column with k bytes a row after the number v is written in row i, least significant byte first
unfoldable pub with_row : ℕ → List ℕ → ℕ → ℕ → List ℕ
with_row k l i v = take (k * (i - 1)) l ++ bytes_of k v ++ drop (k * (i - 1) + k) l
