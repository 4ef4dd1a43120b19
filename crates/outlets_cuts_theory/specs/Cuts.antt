-- Constructions 2 to 4 of source 002 over a spanning tree S and the forest U of the rows not at r: for each row e of S at r the rows of U that could come in for it, the lightest of these,
-- the exchange whose difference is least, and what that exchange does to the rows kept for the others.
-- At the end, that the exchange is the one of `outlets_theory`, and that the rows kept are those of the new tree, as a theorem over every sound graph. Assumes nothing.
use Rattle.std.specs.Prelude.{ℕ, suc, ◌≤◌, ℤ, ◌-ℤ◌, ◌≤ℤ◌, Bool, true, false, cond, ◌&&◌, ◌≢◌, ◌≡◌}
use Rattle.graph_theory.specs.Graph.{Graph, Sound}
use Rattle.graph_theory.specs.Tree.{SpanningTree, on_path, exchange}
use Rattle.outlets_forest_theory.specs.Forest.{forest_away}
use Rattle.outlets_theory.specs.Degree.{touches, row_out, row_in}
use Rattle.rowset.specs.Searches.{smallest}
use Rattle.rowset.specs.Sets.{one_of, any, uppermost}

-- construction 2: the rows of Y that could come in for row e of S: those whose path has e
unfoldable pub cut_of : Graph → (Y S : ℕ → Bool) → (e : ℕ) → ℕ → Bool
cut_of g Y S e f = Y f && on_path g S (g.a f) (g.b f) e

-- the uppermost of the lightest of them, 0 if there is none
unfoldable pub lightest_for : Graph → (ℕ → ℤ) → (Y S : ℕ → Bool) → ℕ → ℕ
lightest_for g w Y S e = uppermost g.m (smallest g.m w (cut_of g Y S e))

-- construction 3: the rows of S at r for which a row could come in, and what the exchange with the lightest costs
unfoldable pub could_go : Graph → (r : ℕ) → (Y S : ℕ → Bool) → ℕ → Bool
could_go g r Y S e = (S e && touches g r e) && any g.m (cut_of g Y S e)

unfoldable pub difference : Graph → (ℕ → ℤ) → (Y S : ℕ → Bool) → ℕ → ℤ
difference g w Y S e = w (lightest_for g w Y S e) -ℤ w e

-- construction 4: the rows kept for row k once e has gone out for f: where f was among them, those of e are turned over in them
unfoldable pub cut_turned : Graph → (Y S : ℕ → Bool) → (e f k : ℕ) → ℕ → Bool
cut_turned g Y S e f k = cond (cut_of g Y S k f) (one_of (cut_of g Y S k) (cut_of g Y S e)) (cut_of g Y S k)

pub record CutsFind (g : Graph) (w : ℕ → ℤ) (r : ℕ) (S : ℕ → Bool) : Type 0 where
  -- where a row f comes in, the row e that goes out for it could go, and f is the lightest for it
  pub found : (j : ℕ) → row_in g w r S ≡ suc j → (could_go g r (forest_away g w r) S (row_out g w r S (suc j)) ≡ true) × (lightest_for g w (forest_away g w r) S (row_out g w r S (suc j)) ≡ suc j)
  -- no difference is less; where one is the same, f is not below its row; and where the row is f too, e is not below the row that goes out
  pub least : (j : ℕ) → row_in g w r S ≡ suc j → (k : ℕ) → could_go g r (forest_away g w r) S k ≡ true
      → difference g w (forest_away g w r) S (row_out g w r S (suc j)) ≤ℤ difference g w (forest_away g w r) S k
  pub first : (j : ℕ) → row_in g w r S ≡ suc j → (k : ℕ) → could_go g r (forest_away g w r) S k ≡ true
      → difference g w (forest_away g w r) S k ≤ℤ difference g w (forest_away g w r) S (row_out g w r S (suc j)) → suc j ≤ lightest_for g w (forest_away g w r) S k
  pub out : (j : ℕ) → row_in g w r S ≡ suc j → (k : ℕ) → could_go g r (forest_away g w r) S k ≡ true
      → difference g w (forest_away g w r) S k ≤ℤ difference g w (forest_away g w r) S (row_out g w r S (suc j)) → lightest_for g w (forest_away g w r) S k ≡ suc j → row_out g w r S (suc j) ≤ k
  -- where none comes in, no row at r could go
  pub none : row_in g w r S ≡ 0 → (k : ℕ) → could_go g r (forest_away g w r) S k ≡ false

-- the theorem; its proof is proofs/Cuts.antt
pub record CutsAreEnough : Type 0 where
  pub finds : (g : Graph) → Sound g → (w : ℕ → ℤ) (r : ℕ) (S : ℕ → Bool) → SpanningTree g S → CutsFind g w r S
  -- over any set Y of rows of the graph, and every other row k at r
  pub turns : (g : Graph) → Sound g → (r : ℕ) (Y S : ℕ → Bool) → ((i : ℕ) → Y i ≡ true → g.rows i ≡ true) → SpanningTree g S
      → (e f : ℕ) → Y f ≡ true → S f ≡ false → touches g r f ≡ false → on_path g S (g.a f) (g.b f) e ≡ true
      → (k : ℕ) → touches g r k ≡ true → cut_of g Y (exchange S e f) k ≡ cut_turned g Y S e f k
