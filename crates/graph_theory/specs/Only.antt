-- When a least spanning tree is the only one, and the criterion by which a checker tells it.
-- Assumes nothing.
use Rattle.std.specs.Prelude.{ℕ, ℤ, Bool, true, false, ◌≢◌, ◌≡◌}
use Rattle.graph_theory.specs.Graph.{Graph}
use Rattle.graph_theory.specs.Tree.{SpanningTree, on_path}
use Rattle.rowset.specs.Integers.{total}

-- no other spanning tree has the same weight
abbrev pub Only : Graph → (ℕ → ℤ) → (ℕ → Bool) → Type 0
Only g w S = (S' : ℕ → Bool) → SpanningTree g S' → total g.m w S' ≡ total g.m w S → S' ≡ S

-- no row outside S weighs as much as a row on the tree path between its ends
abbrev pub Unequalled : Graph → (ℕ → ℤ) → (ℕ → Bool) → Type 0
Unequalled g w S =
    (f : ℕ) → g.rows f ≡ true → S f ≡ false → (e : ℕ) → on_path g S (g.a f) (g.b f) e ≡ true → w e ≢ w f
