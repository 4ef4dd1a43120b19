-- Graphs of rows: each row joins two vertices. Walks over a set of rows, and the vertices that a set of rows joins to a vertex.
-- Assumes nothing.
use Rattle.std.specs.Prelude.{ℕ, zero, suc, ◌≤◌, Bool, true, false, cond, ◌≢◌, ◌≡◌}
use Rattle.std.specs.Bool.{xor}
use Rattle.rowset.specs.Sets.{empty, both, put, uppermost}

-- vertices 1 to n; row i, a position of 1 to m, joins vertex a i and vertex b i; rows says which positions are rows of the graph
pub record Graph : Type 0 where
  pub n : ℕ
  pub m : ℕ
  pub a : ℕ → ℕ
  pub b : ℕ → ℕ
  pub rows : ℕ → Bool

-- there is a vertex, and each row joins two different vertices
pub record Sound (g : Graph) : Type 0 where
  pub vertex : 1 ≤ g.n
  pub position : (i : ℕ) → g.rows i ≡ true → (1 ≤ i) × (i ≤ g.m)
  pub left : (i : ℕ) → g.rows i ≡ true → (1 ≤ g.a i) × (g.a i ≤ g.n)
  pub right : (i : ℕ) → g.rows i ≡ true → (1 ≤ g.b i) × (g.b i ≤ g.n)
  pub apart : (i : ℕ) → g.rows i ≡ true → g.a i ≢ g.b i

-- S is a set of rows of the graph
abbrev pub Inside : Graph → (ℕ → Bool) → Type 0
Inside g S = (i : ℕ) → S i ≡ true → g.rows i ≡ true

-- a walk over rows of S from vertex s: it stays, or goes on along a row, from its left end to its right end or back
pub data Walk (g : Graph) (S : ℕ → Bool) (s : ℕ) : ℕ → Type 0 where
  stay : Walk g S s s
  ahead : (i : ℕ) → S i ≡ true → Walk g S s (g.a i) → Walk g S s (g.b i)
  back : (i : ℕ) → S i ≡ true → Walk g S s (g.b i) → Walk g S s (g.a i)

-- a connected graph: its rows join every vertex to vertex 1
abbrev pub Connected : Graph → Type 0
Connected g = (v : ℕ) → 1 ≤ v → v ≤ g.n → Walk g g.rows 1 v

-- row i has exactly one end in the vertex set Q
unfoldable pub crosses : Graph → (ℕ → Bool) → ℕ → Bool
crosses g Q i = xor (Q (g.a i)) (Q (g.b i))

-- the vertex set with both ends of row i; position 0 is no row, and adds nothing
unfoldable pub with_ends : Graph → (ℕ → Bool) → ℕ → ℕ → Bool
with_ends g Q zero = Q
with_ends g Q (suc j) = put (put Q (g.a (suc j))) (g.b (suc j))

-- the vertex set after one step: the uppermost row of S that has exactly one end in it brings in its other end
unfoldable pub step : Graph → (ℕ → Bool) → (ℕ → Bool) → ℕ → Bool
step g S Q = with_ends g Q (uppermost g.m (both S (crosses g Q)))

-- the vertex set after k steps
unfoldable pub grow : Graph → (ℕ → Bool) → ℕ → (ℕ → Bool) → ℕ → Bool
grow g S zero Q = Q
grow g S (suc k) Q = step g S (grow g S k Q)

-- the vertices that rows of S join to vertex u: n steps are enough to reach them all
unfoldable pub joined : Graph → (ℕ → Bool) → ℕ → ℕ → Bool
joined g S u = grow g S g.n (put empty u)
