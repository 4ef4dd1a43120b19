-- Trials: the forest of the rows not at a vertex, of the yard, of a ring of equal prices beside the vertex, and of two groups that only the vertex joins.
-- Assumes nothing.
use Rattle.std.specs.Prelude.{ℕ, ℤ, pos, negsuc, List, [], ◌∷◌, ◌≡◌}
use Rattle.graph_theory.specs.Graph.{Graph}
use Rattle.graph_theory.specs.Yard.{graph_from, prices_from, yard, yard_prices, listed}
use Rattle.outlets_forest_theory.specs.Forest.{forest_away}

-- 1-2 weight 1, and a ring of weight 5: 2-3, 3-4, 2-4
abbrev pub ring : Graph
ring = graph_from 4 4 (1 ∷ 2 ∷ 3 ∷ 2 ∷ []) (2 ∷ 3 ∷ 4 ∷ 4 ∷ [])

abbrev pub ring_prices : ℕ → ℤ
ring_prices = prices_from (pos 1 ∷ pos 5 ∷ pos 5 ∷ pos 5 ∷ [])

-- 1-2 weight -7, 1-4 weight 2, 2-3 weight 9, 4-5 weight -1
abbrev pub wings : Graph
wings = graph_from 5 4 (1 ∷ 1 ∷ 2 ∷ 4 ∷ []) (2 ∷ 4 ∷ 3 ∷ 5 ∷ [])

abbrev pub wings_prices : ℕ → ℤ
wings_prices = prices_from (negsuc 6 ∷ pos 2 ∷ pos 9 ∷ negsuc 0 ∷ [])

abbrev pub given : List (List ℕ)
given =
    listed 5 (forest_away yard yard_prices 1) ∷ listed 5 (forest_away yard yard_prices 2) ∷ listed 5 (forest_away yard yard_prices 3) ∷ listed 5 (forest_away yard yard_prices 4)
    ∷ listed 4 (forest_away ring ring_prices 1) ∷ listed 4 (forest_away ring ring_prices 2)
    ∷ listed 4 (forest_away wings wings_prices 1)
    ∷ []

abbrev pub expected : List (List ℕ)
expected =
    (2 ∷ 3 ∷ []) ∷ (3 ∷ 4 ∷ []) ∷ (1 ∷ 4 ∷ []) ∷ (1 ∷ 2 ∷ []) ∷ (2 ∷ 3 ∷ []) ∷ (3 ∷ []) ∷ (3 ∷ 4 ∷ []) ∷ []

abbrev pub TrialsHold : Type 0
TrialsHold = given ≡ expected
