-- The walk of MatrixPath as the machine makes it: three slices and the words of a path matrix, from vertex to vertex.
-- a and b give the ends of each row, and T is the set of rows that the walk may use. Assumes nothing.
use Rattle.std.specs.Prelude.{ℕ, zero, suc, Bool, true, cond, List, ◌≡◌}
use Rattle.rowset.specs.Searches.{equal_to}
use Rattle.rowset.specs.Sets.{empty, either, one_of, uppermost}
use Rattle.path_matrix.specs.Matrix.{matrix_column, with_column}
use Rattle.slice.specs.Slices.{size, written}

-- the rows of T whose left end is reached and those whose right end is, the vertices reached, and the words of the path matrix
pub record State : Type 0 where
  pub lefts : ℕ → Bool
  pub rights : ℕ → Bool
  pub reached : ℕ → Bool
  pub words : List ℕ

-- no vertex is reached
unfoldable pub nowhere : List ℕ → State
nowhere words = record { lefts = empty; rights = empty; reached = empty; words = words }

-- vertex v is reached along the rows of p
unfoldable pub arrive : (ℕ → ℕ) → (ℕ → ℕ) → (ℕ → Bool) → State → ℕ → (ℕ → Bool) → State
arrive a b T x v p =
    record {
      lefts = either x.lefts (equal_to a v T);
      rights = either x.rights (equal_to b v T);
      reached = written x.reached v true;
      words = with_column x.words v p;
    }

-- row i is taken from vertex u to vertex v, whose path is that of u with row i
unfoldable pub pass : (ℕ → ℕ) → (ℕ → ℕ) → (ℕ → Bool) → State → ℕ → ℕ → ℕ → State
pass a b T x i u v = arrive a b T x v (written (matrix_column x.words u) i true)

-- row i is taken from its end that is reached to the other; 0 is no row
unfoldable pub along : (ℕ → ℕ) → (ℕ → ℕ) → (ℕ → Bool) → State → ℕ → State
along a b T x zero = x
along a b T x (suc j) =
    cond (x.lefts (suc j)) (pass a b T x (suc j) (a (suc j)) (b (suc j))) (pass a b T x (suc j) (b (suc j)) (a (suc j)))

-- the uppermost row with exactly one end reached is taken
unfoldable pub step : (ℕ → ℕ) → (ℕ → ℕ) → (ℕ → Bool) → State → State
step a b T x = along a b T x (uppermost size (one_of x.lefts x.rights))

-- the state after k steps from x
unfoldable pub steps : (ℕ → ℕ) → (ℕ → ℕ) → (ℕ → Bool) → State → ℕ → State
steps a b T x zero = x
steps a b T x (suc k) = step a b T (steps a b T x k)

-- the walk of k steps from vertex s, whose path is empty
unfoldable pub walk : (ℕ → ℕ) → (ℕ → ℕ) → (ℕ → Bool) → ℕ → List ℕ → ℕ → State
walk a b T s words = steps a b T (arrive a b T (nowhere words) s empty)

-- the vertices that a walk reaches and the words of the path matrix after it
pub record Walked (x : State) (reached : ℕ → Bool) (words : List ℕ) : Type 0 where
  pub vertices : reached ≡ x.reached
  pub paths : words ≡ x.words
