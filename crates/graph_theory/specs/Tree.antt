-- Spanning trees, the tree path between two vertices, the exchange of a row, and the rows that a walk uses.
-- Assumes nothing.
use Rattle.std.specs.Prelude.{ℕ, suc, ◌≤◌, Bool, true, not, ◌&&◌, ◌≡◌}
use Rattle.graph_theory.specs.Graph.{Graph, Inside, Walk, stay, ahead, back, joined}
use Rattle.rowset.specs.Sets.{empty, count, put, take_out}

-- a spanning tree: n − 1 rows of the graph over which every vertex is joined to vertex 1 by a walk
pub record SpanningTree (g : Graph) (S : ℕ → Bool) : Type 0 where
  pub inside : Inside g S
  pub marks : suc (count g.m S) ≡ g.n
  pub reached : (v : ℕ) → 1 ≤ v → v ≤ g.n → Walk g S 1 v

-- row i lies on the tree path from u to v: it is a row of the tree, and without it u and v are not joined
unfoldable pub on_path : Graph → (ℕ → Bool) → ℕ → ℕ → ℕ → Bool
on_path g S u v i = S i && not (joined g (take_out S i) u v)

-- the exchange: row e goes out and row f comes in
unfoldable pub exchange : (ℕ → Bool) → ℕ → ℕ → ℕ → Bool
exchange S e f = put (take_out S e) f

-- the rows that a walk uses, and whether it uses none of them twice
unfoldable pub uses : {g : Graph} {S : ℕ → Bool} {u v : ℕ} → Walk g S u v → ℕ → Bool
uses stay = empty
uses (ahead i e p) = put (uses p) i
uses (back i e p) = put (uses p) i

unfoldable pub once : {g : Graph} {S : ℕ → Bool} {u v : ℕ} → Walk g S u v → Bool
once stay = true
once (ahead i e p) = not (uses p i) && once p
once (back i e p) = not (uses p i) && once p
