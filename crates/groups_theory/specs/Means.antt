-- What groups and rings mean in the words of walks, and when a set of rows is a spanning tree.
-- Cites definitions alone; the proof is proofs/Means.antt. Assumes nothing.
use Rattle.std.specs.Prelude.{ℕ, suc, ◌≤◌, Bool, true, false, ◌↔◌, ◌≡◌}
use Rattle.graph_theory.specs.Graph.{Graph, Sound, Inside, Walk}
use Rattle.graph_theory.specs.Meaning.{Vertex}
use Rattle.graph_theory.specs.Tree.{SpanningTree}
use Rattle.groups_theory.specs.Groups.{group_of, group_count, closes_ring}
use Rattle.rowset.specs.Sets.{take_out, count}

-- of a set S of rows
pub record GroupsMean (g : Graph) (S : ℕ → Bool) : Type 0 where
  -- a vertex's group is a vertex to which a walk over rows of S leads, and the smallest such
  pub group-walk : (v : ℕ) → Vertex g v → Vertex g (group_of g S v) × Walk g S v (group_of g S v)
  pub group-least : (u v : ℕ) → Vertex g u → Vertex g v → Walk g S v u → group_of g S v ≤ u
  -- two vertices have one group exactly where a walk over rows of S leads from one to the other
  pub same-group : (u v : ℕ) → Vertex g u → Vertex g v → (group_of g S u ≡ group_of g S v) ↔ Walk g S u v
  -- row i closes a ring exactly where it is a row of S and a walk over the other rows of S joins its ends
  pub ring : (i : ℕ) → (closes_ring g S i ≡ true) ↔ ((S i ≡ true) × Walk g (take_out S i) (g.a i) (g.b i))
  -- S is a spanning tree exactly where there is one group and no row closes a ring
  pub tree : SpanningTree g S ↔ ((group_count g S ≡ 1) × ((i : ℕ) → closes_ring g S i ≡ false))
  -- the count is not enough: of n − 1 rows in more than one group one closes a ring
  pub count-is-not-enough : suc (count g.m S) ≡ g.n → 2 ≤ group_count g S → (i : ℕ) × (closes_ring g S i ≡ true)

-- the theorem, over every set of rows of a sound graph
abbrev pub GroupsMeans : Type 0
GroupsMeans = (g : Graph) → Sound g → (S : ℕ → Bool) → Inside g S → GroupsMean g S
