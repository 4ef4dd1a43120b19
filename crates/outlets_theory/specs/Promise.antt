-- What is promised of the tree with exactly t rows at r, over every sound graph. Cites definitions alone; the proof is proofs/Promise.antt.
-- Assumes nothing.
use Rattle.std.specs.Prelude.{ℕ, ◌≤◌, ℤ, ◌≤ℤ◌, Bool, ◌↔◌, ◌≡◌}
use Rattle.std.proofs.Math.Option.{none, some}
use Rattle.outlets_theory.specs.Degree.{rows_at, tree_with}
use Rattle.graph_theory.specs.Graph.{Graph, Sound}
use Rattle.graph_theory.specs.Tree.{SpanningTree}
use Rattle.rowset.specs.Integers.{total}

-- a spanning tree with exactly t rows at r, and every spanning tree with exactly t rows at r weighs at least as much
pub record LeastWith (g : Graph) (w : ℕ → ℤ) (r t : ℕ) (T : ℕ → Bool) : Type 0 where
  pub tree : SpanningTree g T
  pub exactly : rows_at g r T ≡ t
  pub least : (S : ℕ → Bool) → SpanningTree g S → rows_at g r S ≡ t → total g.m w T ≤ℤ total g.m w S

pub record DegreeMeans (g : Graph) (w : ℕ → ℤ) (r t : ℕ) : Type 0 where
  -- what is built is such a tree
  pub built : (T : ℕ → Bool) → tree_with g w r t ≡ some T → LeastWith g w r t T
  -- and nothing is built exactly where no spanning tree has exactly t rows at r
  pub unbuilt : (tree_with g w r t ≡ none) ↔ ((S : ℕ → Bool) → SpanningTree g S → rows_at g r S ≡ t → ⊥)
  -- the numbers that are possible have no holes: between those of two spanning trees something is built
  pub between : (S S' : ℕ → Bool) → SpanningTree g S → SpanningTree g S' → rows_at g r S ≤ t → t ≤ rows_at g r S' → (T : ℕ → Bool) × (tree_with g w r t ≡ some T)

abbrev pub Degrees : Type 0
Degrees = (g : Graph) → Sound g → (w : ℕ → ℤ) (r t : ℕ) → DegreeMeans g w r t
