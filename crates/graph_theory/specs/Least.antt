-- Least spanning trees over integer weights, and the criterion by which a checker tells them.
-- Assumes nothing.
use Rattle.std.specs.Prelude.{ℕ, ℤ, ◌≤ℤ◌, Bool, true, false, ◌≡◌}
use Rattle.graph_theory.specs.Graph.{Graph}
use Rattle.graph_theory.specs.Tree.{SpanningTree, on_path}
use Rattle.rowset.specs.Integers.{total}

-- a spanning tree, and every spanning tree weighs at least as much
pub record Least (g : Graph) (w : ℕ → ℤ) (S : ℕ → Bool) : Type 0 where
  pub tree : SpanningTree g S
  pub least : (S' : ℕ → Bool) → SpanningTree g S' → total g.m w S ≤ℤ total g.m w S'

-- no row outside S is lighter than a row on the tree path between its ends
abbrev pub Good : Graph → (ℕ → ℤ) → (ℕ → Bool) → Type 0
Good g w S =
    (f : ℕ) → g.rows f ≡ true → S f ≡ false → (e : ℕ) → on_path g S (g.a f) (g.b f) e ≡ true → w e ≤ℤ w f
