-- Detours: for a row outside a tree the heaviest row of the tree path between its ends, for a row of the tree the lightest row that could take its place, and of all such exchanges the one that saves most.
-- Assumes nothing.
use Rattle.std.specs.Prelude.{ℕ, ℤ, ◌-ℤ◌, Bool, ◌&&◌}
use Rattle.std.specs.Int.Signed.{lt_z}
use Rattle.graph_theory.specs.Graph.{Graph}
use Rattle.graph_theory.specs.Tree.{on_path}
use Rattle.rowset.specs.Searches.{smallest, largest}
use Rattle.rowset.specs.Sets.{without, uppermost}

-- the rows on the tree path between row f's ends
abbrev pub detour : Graph → (ℕ → Bool) → ℕ → ℕ → Bool
detour g S f = on_path g S (g.a f) (g.b f)

-- the heaviest of them, the uppermost among equals; 0 where there is none
unfoldable pub dearest : Graph → (ℕ → ℤ) → (ℕ → Bool) → ℕ → ℕ
dearest g w S f = uppermost g.m (largest g.m w (detour g S f))

-- the rows of the graph outside S that could take row e's place: those whose path has row e
unfoldable pub around : Graph → (ℕ → Bool) → ℕ → ℕ → Bool
around g S e f = without g.rows S f && detour g S f e

-- the lightest of them, the uppermost among equals; 0 where there is none
unfoldable pub replacement : Graph → (ℕ → ℤ) → (ℕ → Bool) → ℕ → ℕ
replacement g w S e = uppermost g.m (smallest g.m w (around g S e))

-- row f is a row of the graph outside S that is lighter than its dearest row, and how much lighter
unfoldable pub saves : Graph → (ℕ → ℤ) → (ℕ → Bool) → ℕ → Bool
saves g w S f = without g.rows S f && lt_z (w f) (w (dearest g w S f))

unfoldable pub saving : Graph → (ℕ → ℤ) → (ℕ → Bool) → ℕ → ℤ
saving g w S f = w (dearest g w S f) -ℤ w f

-- the row that saves most, the uppermost among equals; 0 where none saves
unfoldable pub best_in : Graph → (ℕ → ℤ) → (ℕ → Bool) → ℕ
best_in g w S = uppermost g.m (largest g.m (saving g w S) (saves g w S))
