-- Groups and rings as the machine finds them: the rows that close a ring so far, a label for each vertex, and the words of a matrix with a column for each.
-- Assumes nothing.
use Rattle.std.specs.Prelude.{ℕ, zero, suc, min, max, eqb, replicate, Bool, true, cond, List}
use Rattle.mend_groups.specs.Steps.Machine.{all_renamed, labels_from}
use Rattle.path_matrix.specs.Matrix.{matrix_column, with_column}
use Rattle.rowset.specs.Bytes.{in_row}
use Rattle.rowset.specs.Sets.{empty, either, one_of}
use Rattle.slice.specs.declared.Slice.{Slice}
use Rattle.slice.specs.Slices.{component, written}

pub record State : Type 0 where
  pub rings : ℕ → Bool
  pub labels : List ℕ
  pub own : List ℕ

-- the state that a slice and the lent columns stand for
abbrev pub state_of : Slice → (labels own : List ℕ) → State
state_of rings labels own = record { rings = component rings; labels = labels; own = own }

-- the ring of row i with ends a and b: the row, and the rows in which their columns differ
unfoldable pub ring_at : List ℕ → (a b i : ℕ) → ℕ → Bool
ring_at own a b i = written (one_of (matrix_column own a) (matrix_column own b)) i true

-- column v turned over by a ring where vertex v has label x, and columns 1 to n
unfoldable pub column_turned : (labels own : List ℕ) → (v x : ℕ) → (ℕ → Bool) → List ℕ
column_turned labels own v x ring = cond (eqb (in_row 1 labels v) x) (with_column own v (one_of (matrix_column own v) ring)) own

unfoldable pub columns_turned : (labels own : List ℕ) → (n x : ℕ) → (ℕ → Bool) → List ℕ
columns_turned labels own zero x ring = own
columns_turned labels own (suc n) x ring = column_turned labels (columns_turned labels own n x ring) (suc n) x ring

-- the group of label x comes to that of label y, over a row with this ring
unfoldable pub joined_at : ℕ → State → (x y : ℕ) → (ℕ → Bool) → State
joined_at n s x y ring = record { rings = s.rings; labels = all_renamed s.labels x y; own = columns_turned s.labels s.own n x ring }

-- a marked row is visited: it closes a ring, or joins two groups
unfoldable pub visit_at : ℕ → (left right : List ℕ) → ℕ → State → State
visit_at n left right i s =
    let a = in_row 1 left i in
    let b = in_row 1 right i in
    let x = in_row 1 s.labels a in
    let y = in_row 1 s.labels b in
    let ring = ring_at s.own a b i in
    cond (eqb x y) (record { rings = either s.rings ring; labels = s.labels; own = s.own }) (joined_at n s (max x y) (min x y) ring)

-- row i is visited where M has it
unfoldable pub row_at : (ℕ → Bool) → ℕ → (left right : List ℕ) → ℕ → State → State
row_at M n left right i s = cond (M i) (visit_at n left right i s) s

-- what is done at the rows 1 to k, one after the other
unfoldable pub visits : (ℕ → State → State) → ℕ → State → State
visits visit zero s = s
visits visit (suc k) s = visit (suc k) (visits visit k s)

-- the rows of M among 1 to m visited, from no ring, a label of its own for each of k vertices, and an empty matrix
unfoldable pub all_visited : (n m : ℕ) → (left right : List ℕ) → (ℕ → Bool) → ℕ → State
all_visited n m left right M k = visits (row_at M n left right) m (record { rings = empty; labels = labels_from 0 k; own = replicate 4080 0 })
