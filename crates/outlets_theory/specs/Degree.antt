-- A least spanning tree with exactly t rows at the vertex r: a tree with as many rows at r as there can be, and then Gabow's exchanges, each of which takes one row at r out.
-- Assumes nothing.
use Rattle.std.specs.Prelude.{ℕ, zero, suc, ◌-◌, eqb, ltb, ℤ, ◌-ℤ◌, Bool, not, cond, ◌&&◌, ◌||◌}
use Rattle.std.proofs.Math.Option.{Option, none, some}
use Rattle.graph_theory.specs.Builder.{Fragment, nothing, cheapest, choose}
use Rattle.graph_theory.specs.Graph.{Graph, crosses}
use Rattle.graph_theory.specs.Tree.{on_path, exchange}
use Rattle.rowset.specs.Searches.{smallest, largest}
use Rattle.rowset.specs.Sets.{both, any, first_of, uppermost, count}

-- row i has an end at vertex r
unfoldable pub touches : Graph → ℕ → ℕ → Bool
touches g r i = eqb (g.a i) r || eqb (g.b i) r

-- the number of rows of S at r
unfoldable pub rows_at : Graph → ℕ → (ℕ → Bool) → ℕ
rows_at g r S = count g.m (both S (touches g r))

-- ── The start: rows at r are preferred ──

-- of the rows of X, the uppermost lightest at r if there is one, else the uppermost lightest; 0 if X has no row
unfoldable pub preferred : Graph → (ℕ → ℤ) → ℕ → (ℕ → Bool) → ℕ
preferred g w r X = first_of (cheapest g w (both X (touches g r))) (cheapest g w X)

-- the first row is preferred of all rows
unfoldable pub first : Graph → (ℕ → ℤ) → ℕ → Option Fragment
first g w r = choose g nothing (preferred g w r g.rows)

-- each next row is preferred of the rows with exactly one end in the fragment
unfoldable pub next : Graph → (ℕ → ℤ) → ℕ → Option Fragment → Option Fragment
next g w r none = none
next g w r (some f) = choose g f (preferred g w r (both g.rows (crosses g f.vertices)))

-- the fragment after the first row and k rows more
unfoldable pub fragment : Graph → (ℕ → ℤ) → ℕ → ℕ → Option Fragment
fragment g w r zero = first g w r
fragment g w r (suc k) = next g w r (fragment g w r k)

-- the whole tree, n − 1 rows, or none: for one vertex nothing is chosen
unfoldable pub start_of : ℕ → Graph → (ℕ → ℤ) → ℕ → Option Fragment
start_of zero g w r = none
start_of (suc zero) g w r = some nothing
start_of (suc (suc k)) g w r = fragment g w r k

unfoldable pub start : Graph → (ℕ → ℤ) → ℕ → Option Fragment
start g w r = start_of g.n g w r

-- ── The exchanges: one row at r fewer each time ──

-- the rows at r on the tree path of row f
unfoldable pub path_at : Graph → ℕ → (ℕ → Bool) → ℕ → ℕ → Bool
path_at g r S f = both (on_path g S (g.a f) (g.b f)) (touches g r)

-- the row that would go out for row f: the uppermost of the heaviest of them
unfoldable pub row_out : Graph → (ℕ → ℤ) → ℕ → (ℕ → Bool) → ℕ → ℕ
row_out g w r S f = uppermost g.m (largest g.m w (path_at g r S f))

-- the rows that could come in: not in the tree, not at r, with a row at r on the path
unfoldable pub offers : Graph → ℕ → (ℕ → Bool) → ℕ → Bool
offers g r S f = (g.rows f && not (S f)) && (not (touches g r f) && any g.m (path_at g r S f))

-- what the exchange for row f costs
unfoldable pub cost : Graph → (ℕ → ℤ) → ℕ → (ℕ → Bool) → ℕ → ℤ
cost g w r S f = w f -ℤ w (row_out g w r S f)

-- the row that comes in: the uppermost of those whose exchange costs least, 0 if there is none
unfoldable pub row_in : Graph → (ℕ → ℤ) → ℕ → (ℕ → Bool) → ℕ
row_in g w r S = uppermost g.m (smallest g.m (cost g w r S) (offers g r S))

-- the tree with row f in, where 0 says that there is none to come in
unfoldable pub swap_for : Graph → (ℕ → ℤ) → ℕ → (ℕ → Bool) → ℕ → Option (ℕ → Bool)
swap_for g w r S zero = none
swap_for g w r S (suc j) = some (exchange S (row_out g w r S (suc j)) (suc j))

-- the exchange of least cost
unfoldable pub swap : Graph → (ℕ → ℤ) → ℕ → Option (ℕ → Bool) → Option (ℕ → Bool)
swap g w r none = none
swap g w r (some S) = swap_for g w r S (row_in g w r S)

-- the tree after k exchanges
unfoldable pub swaps : Graph → (ℕ → ℤ) → ℕ → ℕ → (ℕ → Bool) → Option (ℕ → Bool)
swaps g w r zero S = some S
swaps g w r (suc k) S = swap g w r (swaps g w r k S)

-- as many exchanges as S has rows at r more than t; none where it has fewer than t
unfoldable pub reduced : Graph → (ℕ → ℤ) → ℕ → ℕ → (ℕ → Bool) → Option (ℕ → Bool)
reduced g w r t S = cond (ltb (rows_at g r S) t) none (swaps g w r (rows_at g r S - t) S)

-- a least spanning tree with exactly t rows at r, or none
unfoldable pub reduced_from : Graph → (ℕ → ℤ) → ℕ → ℕ → Option Fragment → Option (ℕ → Bool)
reduced_from g w r t none = none
reduced_from g w r t (some f) = reduced g w r t f.chosen

unfoldable pub tree_with : Graph → (ℕ → ℤ) → ℕ → ℕ → Option (ℕ → Bool)
tree_with g w r t = reduced_from g w r t (start g w r)
