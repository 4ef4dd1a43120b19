-- Forests of a set of rows, least forests over integer weights, and the criterion by which a least forest is told.
-- At the end, what the criterion is worth, as a theorem over every sound graph. Assumes nothing.
use Rattle.std.specs.Prelude.{ℕ, ℤ, ◌≤ℤ◌, Bool, true, false, ◌↔◌, ◌≡◌}
use Rattle.graph_theory.specs.Graph.{Graph, Sound, Inside, Walk}
use Rattle.graph_theory.specs.Tree.{on_path}
use Rattle.rowset.specs.Integers.{total}
use Rattle.rowset.specs.Sets.{take_out}

-- no ring: no row of F joins vertices that the other rows of F join
abbrev pub Ringless : Graph → (ℕ → Bool) → Type 0
Ringless g F = (i : ℕ) → F i ≡ true → Walk g (take_out F i) (g.a i) (g.b i) → ⊥

-- a forest of the set X of rows: rows of X without a ring, which join exactly the vertices that X joins
pub record Forest (g : Graph) (X F : ℕ → Bool) : Type 0 where
  pub inside : (i : ℕ) → F i ≡ true → X i ≡ true
  pub ringless : Ringless g F
  pub joins : (u v : ℕ) → Walk g F u v ↔ Walk g X u v

-- a forest of X, and every forest of X weighs at least as much
pub record LeastForest (g : Graph) (w : ℕ → ℤ) (X F : ℕ → Bool) : Type 0 where
  pub forest : Forest g X F
  pub least : (F' : ℕ → Bool) → Forest g X F' → total g.m w F ≤ℤ total g.m w F'

-- no row of X outside F is lighter than a row on the path of F between its ends
abbrev pub GoodForest : Graph → (ℕ → ℤ) → (ℕ → Bool) → (ℕ → Bool) → Type 0
GoodForest g w X F =
    (f : ℕ) → X f ≡ true → F f ≡ false → (e : ℕ) → on_path g F (g.a f) (g.b f) e ≡ true → w e ≤ℤ w f

-- the theorem: of every set X of rows of a sound graph, a forest is least exactly where it is good; its proof is proofs/Least.antt
abbrev pub GoodIsLeast : Type 0
GoodIsLeast =
    (g : Graph) → Sound g → (w : ℕ → ℤ) (X : ℕ → Bool) → Inside g X → (F : ℕ → Bool) → Forest g X F → LeastForest g w X F ↔ GoodForest g w X F
