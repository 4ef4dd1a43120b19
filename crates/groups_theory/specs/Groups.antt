-- The groups that a set of rows joins, their number, and the rows of it that close a ring.
-- Assumes nothing.
use Rattle.std.specs.Prelude.{ℕ, eqb, Bool, ◌&&◌}
use Rattle.graph_theory.specs.Graph.{Graph, joined}
use Rattle.rowset.specs.Sets.{take_out, uppermost, count}

-- the group of vertex v: the smallest vertex that rows of S join it to
unfoldable pub group_of : Graph → (ℕ → Bool) → ℕ → ℕ
group_of g S v = uppermost g.n (joined g S v)

-- the number of groups: the vertices that are the smallest of their own
unfoldable pub group_count : Graph → (ℕ → Bool) → ℕ
group_count g S = count g.n (λ v. eqb (group_of g S v) v)

-- row i closes a ring: it is a row of S, and the other rows of S join its ends
unfoldable pub closes_ring : Graph → (ℕ → Bool) → ℕ → Bool
closes_ring g S i = S i && joined g (take_out S i) (g.a i) (g.b i)
