-- The dearest stretch between two vertices: a heaviest row of the tree path between them, and of any walk between them.
-- Cites definitions alone; the proof is proofs/Stretch.antt. Assumes nothing.
use Rattle.std.specs.Prelude.{ℕ, ℤ, ◌≤ℤ◌, Bool, true, ◌≢◌, ◌≡◌}
use Rattle.graph_theory.specs.Graph.{Graph, Sound, Walk}
use Rattle.graph_theory.specs.Least.{Least}
use Rattle.graph_theory.specs.Meaning.{Vertex}
use Rattle.graph_theory.specs.Tree.{on_path, uses}

-- row e is a heaviest row of the set: it belongs, and no row that belongs is heavier
abbrev pub Heaviest : (ℕ → ℤ) → (ℕ → Bool) → ℕ → Type 0
Heaviest w P e = (P e ≡ true) × ((i : ℕ) → P i ≡ true → w i ≤ℤ w e)

-- of a tree S and two vertices u and v
pub record Stretch (g : Graph) (w : ℕ → ℤ) (S : ℕ → Bool) (u v : ℕ) : Type 0 where
  -- the tree path between them has a heaviest row
  pub on-path : (e : ℕ) × Heaviest w (on_path g S u v) e
  -- and so has every walk between them over rows of the graph
  pub on-walk : (p : Walk g g.rows u v) → (f : ℕ) × Heaviest w (uses p) f
  -- the heaviest row on their tree path weighs no more than the heaviest row of any walk between them
  pub no-heavier : (e : ℕ) → Heaviest w (on_path g S u v) e → (p : Walk g g.rows u v) (f : ℕ) → Heaviest w (uses p) f → w e ≤ℤ w f

-- the theorem: over all sound graphs, for every least spanning tree and every two different vertices
abbrev pub DearestStretch : Type 0
DearestStretch =
    (g : Graph) → Sound g → (w : ℕ → ℤ) (S : ℕ → Bool) → Least g w S → (u v : ℕ) → Vertex g u → Vertex g v → u ≢ v → Stretch g w S u v
