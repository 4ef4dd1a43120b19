-- The dearest stretch between two vertices: what a claim that the checker passes is worth to who reads it by its heaviest row, over every table, plain or working.
-- Cites definitions alone; the proof is proofs/Stretch.antt. Assumes nothing.
use Rattle.std.specs.Prelude.{ℕ, ℤ, ◌≤ℤ◌, Bool, true, ◌≢◌, ◌≡◌}
use Rattle.graph_theory.specs.Graph.{Walk}
use Rattle.graph_theory.specs.Stretch.{Heaviest}
use Rattle.graph_theory.specs.Tree.{on_path, uses, once}
use Rattle.star_spec.specs.Accepted.{Vertex}
use Rattle.star_spec.specs.Call.{Call, used, graph_of, weight_of, claimed}
use Rattle.star_spec.specs.Cst.{passed, cst}

-- the rows on the tree path between u and v, over the claim's marked rows
abbrev pub path_of : Call → ℕ → ℕ → ℕ → Bool
path_of c = on_path (graph_of c) (claimed c)

-- a walk between u and v in the table: over rows in use, any of them as often as it likes
abbrev pub TableWalk : Call → ℕ → ℕ → Type 0
TableWalk c = Walk (graph_of c) (used c)

-- of the claim and two vertices u and v
pub record Stretch (c : Call) (u v : ℕ) : Type 0 where
  -- the tree path is a walk over marked rows between them that uses none of them twice
  pub path : (p : Walk (graph_of c) (claimed c) u v) × ((i : ℕ) → uses p i ≡ path_of c u v i) × (once p ≡ true)
  -- it has a heaviest row
  pub on-path : (e : ℕ) × Heaviest (weight_of c) (path_of c u v) e
  -- and so has every walk between them in the table
  pub on-walk : (p : TableWalk c u v) → (f : ℕ) × Heaviest (weight_of c) (uses p) f
  -- the heaviest row on their tree path weighs no more than the heaviest row of any walk between them in the table
  pub no-heavier : (e : ℕ) → Heaviest (weight_of c) (path_of c u v) e → (p : TableWalk c u v) (f : ℕ) → Heaviest (weight_of c) (uses p) f → weight_of c e ≤ℤ weight_of c f

-- the theorem: for every table and claim that the checker passes, and every two different vertices; a table that is not accepted is never passed
abbrev pub StretchHolds : Type 0
StretchHolds =
    (c : Call) (weight : ℤ) (alone : Bool) → cst c ≡ passed weight alone
    → (u v : ℕ) → Vertex c.n u → Vertex c.n v → u ≢ v → Stretch c u v
