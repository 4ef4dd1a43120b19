-- The tree that grows from the lightest row, one lightest row with exactly one end in the fragment at a time. Weights are integers.
-- Assumes nothing.
use Rattle.std.specs.Prelude.{ℕ, zero, suc, ℤ, Bool}
use Rattle.std.proofs.Math.Option.{Option, none, some}
use Rattle.graph_theory.specs.Graph.{Graph, crosses, with_ends}
use Rattle.rowset.specs.Searches.{smallest}
use Rattle.rowset.specs.Sets.{empty, both, put, uppermost}

-- the fragment: its vertices and the rows that were chosen
pub record Fragment : Type 0 where
  pub vertices : ℕ → Bool
  pub chosen : ℕ → Bool

-- the fragment before a row is chosen
abbrev pub nothing : Fragment
nothing = record { vertices = empty; chosen = empty }

-- the uppermost row of least weight in X, 0 if X has no row
unfoldable pub cheapest : Graph → (ℕ → ℤ) → (ℕ → Bool) → ℕ
cheapest g w X = uppermost g.m (smallest g.m w X)

-- the fragment with row i chosen, where 0 says that there was none to choose
unfoldable pub choose : Graph → Fragment → ℕ → Option Fragment
choose g f zero = none
choose g f (suc j) = some (record { vertices = with_ends g f.vertices (suc j); chosen = put f.chosen (suc j) })

-- the first row is the uppermost of least weight
unfoldable pub first : Graph → (ℕ → ℤ) → Option Fragment
first g w = choose g nothing (cheapest g w g.rows)

-- each next row is the uppermost of least weight among the rows with exactly one end in the fragment
unfoldable pub next : Graph → (ℕ → ℤ) → Option Fragment → Option Fragment
next g w none = none
next g w (some f) = choose g f (cheapest g w (both g.rows (crosses g f.vertices)))

-- the fragment after the first row and k rows more
unfoldable pub fragment : Graph → (ℕ → ℤ) → ℕ → Option Fragment
fragment g w zero = first g w
fragment g w (suc k) = next g w (fragment g w k)

-- the whole tree, n − 1 rows, or none: for one vertex nothing is chosen
unfoldable pub tree_of : ℕ → Graph → (ℕ → ℤ) → Option Fragment
tree_of zero g w = none
tree_of (suc zero) g w = some nothing
tree_of (suc (suc k)) g w = fragment g w k

unfoldable pub tree : Graph → (ℕ → ℤ) → Option Fragment
tree g w = tree_of g.n g w
