-- Trials of what other trials are written with (graph_theory/specs/Yard): the yard's ends, rows and prices, sets from lists and lists from sets.
-- Assumes nothing.
use Rattle.std.specs.Prelude.{ℕ, Bool, List, [], ◌∷◌, map, ◌≡◌, ℤ, pos, negsuc}
use Rattle.graph_theory.specs.Yard.{graph_from, prices_from, yard, yard_prices, set_of, listed}
use Rattle.rowset.specs.Trials.{members}

-- position 0 is no row, nor is 6
abbrev up_to_six : List ℕ
up_to_six = 0 ∷ 1 ∷ 2 ∷ 3 ∷ 4 ∷ 5 ∷ 6 ∷ []

-- the yard: 1-2 weight 5, 2-3 weight 3, 3-4 weight 5, 1-4 weight 4, 1-3 weight 6
abbrev pub YardHolds : Type 0
YardHolds =
    ((yard.n ∷ yard.m ∷ []) ∷ map yard.a up_to_six ∷ map yard.b up_to_six ∷ members 6 yard.rows ∷ [])
    ≡ ((4 ∷ 5 ∷ []) ∷ (0 ∷ 1 ∷ 2 ∷ 3 ∷ 1 ∷ 1 ∷ 0 ∷ []) ∷ (0 ∷ 2 ∷ 3 ∷ 4 ∷ 4 ∷ 3 ∷ 0 ∷ []) ∷ (1 ∷ 2 ∷ 3 ∷ 4 ∷ 5 ∷ []) ∷ [])

abbrev pub PricesHold : Type 0
PricesHold =
    (map yard_prices up_to_six ∷ map (prices_from (negsuc 4 ∷ [])) (0 ∷ 1 ∷ 2 ∷ []) ∷ [])
    ≡ ((pos 0 ∷ pos 5 ∷ pos 3 ∷ pos 5 ∷ pos 4 ∷ pos 6 ∷ pos 0 ∷ []) ∷ (pos 0 ∷ negsuc 4 ∷ pos 0 ∷ []) ∷ [])

-- a graph of other numbers, whose lists of ends are shorter than its rows
abbrev pub GraphHolds : Type 0
GraphHolds =
    let g = graph_from 9 2 (7 ∷ []) (8 ∷ []) in
    ((g.n ∷ g.m ∷ []) ∷ map g.a (0 ∷ 1 ∷ 2 ∷ []) ∷ map g.b (0 ∷ 1 ∷ 2 ∷ []) ∷ members 6 g.rows ∷ [])
    ≡ ((9 ∷ 2 ∷ []) ∷ (0 ∷ 7 ∷ 0 ∷ []) ∷ (0 ∷ 8 ∷ 0 ∷ []) ∷ (1 ∷ 2 ∷ []) ∷ [])

-- the positions of a list, 0 among them; those of 1 to m, from the top, each once, 0 and what is past m left out
abbrev pub SetsHold : Type 0
SetsHold =
    (members 6 (set_of (5 ∷ 0 ∷ 2 ∷ 2 ∷ [])) ∷ members 6 (set_of []) ∷ listed 5 (set_of (5 ∷ 0 ∷ 2 ∷ 2 ∷ [])) ∷ listed 4 (set_of (5 ∷ 0 ∷ 2 ∷ [])) ∷ listed 0 (set_of (1 ∷ [])) ∷ [])
    ≡ ((0 ∷ 2 ∷ 5 ∷ []) ∷ [] ∷ (2 ∷ 5 ∷ []) ∷ (2 ∷ []) ∷ [] ∷ [])
