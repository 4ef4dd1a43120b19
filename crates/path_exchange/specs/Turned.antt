-- The path matrix after an exchange of two rows: each column that has the row that goes out is turned over by the ring, and what that means of tree paths.
-- Assumes nothing.
use Rattle.std.specs.Prelude.{ℕ, zero, suc, ◌*◌, ◌≤◌, length, Bool, true, false, cond, List, ◌≡◌}
use Rattle.graph_theory.specs.Graph.{Graph, Sound}
use Rattle.graph_theory.specs.Tree.{SpanningTree, on_path, exchange}
use Rattle.path_matrix.specs.Matrix.{matrix_column, with_column}
use Rattle.rowset.specs.Sets.{one_of, put}
use Rattle.rowset.specs.Words.{column_words}
use Rattle.slice.specs.Slices.{size}

-- the words l with column j turned over by the ring, its xor with the ring, where it has row e
unfoldable pub column_turned : List ℕ → (j e : ℕ) → (ring : ℕ → Bool) → List ℕ
column_turned l j e ring = cond (matrix_column l j e) (with_column l j (one_of (matrix_column l j) ring)) l

-- the words l with columns 1 to n so turned over
unfoldable pub columns_turned : List ℕ → (n e : ℕ) → (ring : ℕ → Bool) → List ℕ
columns_turned l zero e ring = l
columns_turned l (suc n) e ring = column_turned (columns_turned l n e ring) (suc n) e ring

-- columns 1 to n of the words l are the tree paths from vertex s
abbrev pub PathsFrom : Graph → (ℕ → Bool) → ℕ → List ℕ → Type 0
PathsFrom g S s l = (j : ℕ) → 1 ≤ j → j ≤ g.n → matrix_column l j ≡ on_path g S s j

-- the ring of row f: the path between its ends, with f itself
unfoldable pub ring_of : Graph → (ℕ → Bool) → ℕ → ℕ → Bool
ring_of g S f = put (on_path g S (g.a f) (g.b f)) f

-- the theorem: in a graph of at most 1,024 rows, where columns 1 to n are the tree paths from s and row e of the path of f goes out for f,
-- the columns turned over by the ring of f are the tree paths from s of the tree after the exchange
abbrev pub PathsTurned : Type 0
PathsTurned =
    (g : Graph) → Sound g → g.m ≤ size → (S : ℕ → Bool) → SpanningTree g S → (e f : ℕ) → g.rows f ≡ true → S f ≡ false → on_path g S (g.a f) (g.b f) e ≡ true
    → (s : ℕ) → 1 ≤ s → s ≤ g.n → (l : List ℕ) → column_words * g.n ≤ length l
    → PathsFrom g S s l → PathsFrom g (exchange S e f) s (columns_turned l g.n e (ring_of g S f))
