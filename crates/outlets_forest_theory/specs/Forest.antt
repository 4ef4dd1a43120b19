-- The first stage of source 002 for a vertex r: U, a least forest of the rows not at r. The rows of a least tree with exactly t rows at r are rows at r and rows of U.
-- At the end, what U is worth, as a theorem over every sound graph. Assumes nothing.
use Rattle.std.specs.Prelude.{ℕ, ℤ, Bool, true, false, ◌⊎◌, ◌≡◌}
use Rattle.std.proofs.Math.Option.{some}
use Rattle.districts_theory.specs.Growing.{grown_forest}
use Rattle.graph_theory.specs.Graph.{Graph, Sound}
use Rattle.graph_theory.specs.Tree.{SpanningTree}
use Rattle.outlets_theory.specs.Degree.{touches, offers, cost, row_in, tree_with}
use Rattle.rowset.specs.Searches.{smallest}
use Rattle.rowset.specs.Sets.{both, without, uppermost}

-- the rows not at r
unfoldable pub away_from : Graph → ℕ → ℕ → Bool
away_from g r = without g.rows (touches g r)

-- U: the forest that grows from them, the uppermost row first among equals
unfoldable pub forest_away : Graph → (ℕ → ℤ) → ℕ → ℕ → Bool
forest_away g w r = grown_forest g w (away_from g r)

-- the row that comes in where only rows of Y are looked at: the uppermost of those whose exchange costs least, 0 if there is none
unfoldable pub row_in_of : Graph → (ℕ → ℤ) → (r : ℕ) → (Y S : ℕ → Bool) → ℕ
row_in_of g w r Y S = uppermost g.m (smallest g.m (cost g w r S) (both Y (offers g r S)))

pub record ForestEnough (g : Graph) (w : ℕ → ℤ) (r : ℕ) : Type 0 where
  -- U has rows of the graph that are not at r
  pub rows : (i : ℕ) → forest_away g w r i ≡ true → (g.rows i ≡ true) × (touches g r i ≡ false)
  -- from every spanning tree the same row comes in, whether only rows of U are looked at or all
  pub same : (S : ℕ → Bool) → SpanningTree g S → row_in_of g w r (forest_away g w r) S ≡ row_in g w r S
  -- what is built has rows at r and rows of U alone
  pub inside : (t : ℕ) (T : ℕ → Bool) → tree_with g w r t ≡ some T → (i : ℕ) → T i ≡ true → (touches g r i ≡ true) ⊎ (forest_away g w r i ≡ true)

-- the theorem; its proof is proofs/Forest.antt
abbrev pub ForestIsEnough : Type 0
ForestIsEnough = (g : Graph) → Sound g → (w : ℕ → ℤ) (r : ℕ) → ForestEnough g w r
