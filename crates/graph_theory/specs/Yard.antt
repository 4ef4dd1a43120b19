-- For trials: a graph from lists of ends, the yard, prices from a list, and sets from and to lists of positions.
-- Assumes nothing.
use Rattle.std.specs.Prelude.{ℕ, zero, suc, eqb, ℤ, pos, get_or, Bool, false, cond, ◌||◌, List, [], ◌∷◌, ◌++◌}
use Rattle.graph_theory.specs.Graph.{Graph}
use Rattle.rowset.specs.Sets.{up_to}

-- a graph with n vertices and m rows, with their left and right ends in two lists
abbrev pub graph_from : ℕ → ℕ → List ℕ → List ℕ → Graph
graph_from n m left right =
    record { n = n; m = m; a = λ i. get_or (0 ∷ left) i 0; b = λ i. get_or (0 ∷ right) i 0; rows = up_to m }

-- the prices of rows 1, 2 and so on in a list
abbrev pub prices_from : List ℤ → ℕ → ℤ
prices_from l i = get_or (pos 0 ∷ l) i (pos 0)

-- the yard: 1-2 weight 5, 2-3 weight 3, 3-4 weight 5, 1-4 weight 4, 1-3 weight 6
abbrev pub yard : Graph
yard = graph_from 4 5 (1 ∷ 2 ∷ 3 ∷ 1 ∷ 1 ∷ []) (2 ∷ 3 ∷ 4 ∷ 4 ∷ 3 ∷ [])

abbrev pub yard_prices : ℕ → ℤ
yard_prices = prices_from (pos 5 ∷ pos 3 ∷ pos 5 ∷ pos 4 ∷ pos 6 ∷ [])

-- the set of the positions of a list
unfoldable pub set_of : List ℕ → ℕ → Bool
set_of [] i = false
set_of (k ∷ l) i = eqb i k || set_of l i

-- the positions of 1 to m that belong, from the top
unfoldable pub listed : ℕ → (ℕ → Bool) → List ℕ
listed zero S = []
listed (suc m) S = listed m S ++ cond (S (suc m)) (suc m ∷ []) []
