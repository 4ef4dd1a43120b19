-- Trials of forests and districts: what the definitions give on small graphs, beside what they should give.
-- Assumes nothing.
use Rattle.std.specs.Prelude.{ℕ, ℤ, pos, negsuc, get_or, true, false, List, [], ◌∷◌, ◌≡◌}
use Rattle.std.proofs.Math.Option.{Option, none, some}
use Rattle.districts_theory.specs.Districts.{run, rises_to, forests, within, districts}
use Rattle.districts_theory.specs.Forest.{Forest}
use Rattle.districts_theory.specs.Growing.{grown_forest}
use Rattle.graph_theory.specs.Builder.{Fragment}
use Rattle.graph_theory.specs.Graph.{Graph}
use Rattle.rowset.specs.Integers.{total}
use Rattle.rowset.specs.Sets.{empty, up_to}
use Rattle.rowset.specs.Trials.{these, members}

-- the number at position i of a list, counted from 1
abbrev at : List ℕ → ℕ → ℕ
at l i = get_or (0 ∷ l) i 0

-- the graph of n vertices with rows 1 to m and these ends, and these prices
abbrev graph : ℕ → ℕ → List ℕ → List ℕ → Graph
graph n m left right = record { n = n; m = m; a = at left; b = at right; rows = up_to m }

abbrev prices : List ℤ → ℕ → ℤ
prices l i = get_or (pos 0 ∷ l) i (pos 0)

-- ── The graphs ──

-- the yard: 1-2 of 5, 2-3 of 3, 3-4 of 5, 1-4 of 4, 1-3 of 6
abbrev yard : Graph
yard = graph 4 5 (1 ∷ 2 ∷ 3 ∷ 1 ∷ 1 ∷ []) (2 ∷ 3 ∷ 4 ∷ 4 ∷ 3 ∷ [])

abbrev yard_prices : ℕ → ℤ
yard_prices = prices (pos 5 ∷ pos 3 ∷ pos 5 ∷ pos 4 ∷ pos 6 ∷ [])

-- the yard with rows 1, 3 and 5 alone
abbrev less_yard : Graph
less_yard = within yard (these (1 ∷ 3 ∷ 5 ∷ []))

-- a ring with a negative price at each row: 1-2 of -5, 2-3 of -4, 1-3 of -1
abbrev pub ring : Graph
ring = graph 3 3 (1 ∷ 2 ∷ 1 ∷ []) (2 ∷ 3 ∷ 3 ∷ [])

abbrev ring_prices : ℕ → ℤ
ring_prices = prices (negsuc 4 ∷ negsuc 3 ∷ negsuc 0 ∷ [])

-- unconnected rows: 1-2 of 5, 3-4 of 2, 4-3 of 1, 5-4 of 7; vertex 6 has no row
abbrev pub apart : Graph
apart = graph 6 4 (1 ∷ 3 ∷ 4 ∷ 5 ∷ []) (2 ∷ 4 ∷ 3 ∷ 4 ∷ [])

abbrev apart_prices : ℕ → ℤ
apart_prices = prices (pos 5 ∷ pos 2 ∷ pos 1 ∷ pos 7 ∷ [])

-- ── What is given and what should be ──

-- the forest of the yard's runs 1 to 2 and 3 to 5, of all its rows, of a single row, of an empty run, and of rows that are no run;
-- a negative row that closes a ring does not join a forest; unconnected rows have a forest of several trees
abbrev ForestsHold : Type 0
ForestsHold =
    (
    members 5 (grown_forest yard yard_prices (run yard 0 2)) ∷ members 5 (grown_forest yard yard_prices (run yard 2 5))
    ∷ members 5 (grown_forest yard yard_prices (run yard 0 5))
    ∷ members 5 (grown_forest yard yard_prices (run yard 4 5)) ∷ members 5 (grown_forest yard yard_prices (run yard 2 2))
    ∷ members 5 (grown_forest yard yard_prices (these (1 ∷ 3 ∷ []))) ∷ members 5 (grown_forest yard yard_prices empty)
    ∷ members 3 (grown_forest ring ring_prices (run ring 0 3)) ∷ members 3 (grown_forest ring ring_prices (run ring 1 3))
    ∷ members 4 (grown_forest apart apart_prices (run apart 0 4)) ∷ members 4 (grown_forest apart apart_prices (run apart 0 2))
    ∷ [])
    ≡ (
    (1 ∷ 2 ∷ []) ∷ (3 ∷ 4 ∷ [])
    ∷ (1 ∷ 2 ∷ 4 ∷ [])
    ∷ (5 ∷ []) ∷ []
    ∷ (1 ∷ 3 ∷ []) ∷ []
    ∷ (1 ∷ 2 ∷ []) ∷ (2 ∷ 3 ∷ [])
    ∷ (1 ∷ 3 ∷ 4 ∷ []) ∷ (1 ∷ 2 ∷ [])
    ∷ [])

-- the forests' rows of the yard's runs that end at 2 and 5, of its single rows, of one run; of the ring in one run and in two; of the yard with fewer rows
abbrev AllForestsHold : Type 0
AllForestsHold =
    (
    members 5 (forests yard yard_prices (2 ∷ 5 ∷ [])) ∷ members 5 (forests yard yard_prices (1 ∷ 2 ∷ 3 ∷ 4 ∷ 5 ∷ [])) ∷ members 5 (forests yard yard_prices (5 ∷ []))
    ∷ members 3 (forests ring ring_prices (3 ∷ [])) ∷ members 3 (forests ring ring_prices (1 ∷ 3 ∷ []))
    ∷ members 5 (forests less_yard yard_prices (2 ∷ 5 ∷ []))
    ∷ [])
    ≡ ((1 ∷ 2 ∷ 3 ∷ 4 ∷ []) ∷ (1 ∷ 2 ∷ 3 ∷ 4 ∷ 5 ∷ []) ∷ (1 ∷ 2 ∷ 4 ∷ []) ∷ (1 ∷ 2 ∷ []) ∷ (1 ∷ 2 ∷ 3 ∷ []) ∷ (1 ∷ 3 ∷ 5 ∷ []) ∷ [])

-- the weight of the tree, none where nothing is built
unfoldable pub weight_built : Graph → (ℕ → ℤ) → Option Fragment → Option ℤ
weight_built g w none = none
weight_built g w (some f) = some (total g.m w f.chosen)

abbrev TreesHold : Type 0
TreesHold =
    (
    weight_built yard yard_prices (districts yard yard_prices (2 ∷ 5 ∷ []))
    ∷ weight_built yard yard_prices (districts yard yard_prices (1 ∷ 2 ∷ 3 ∷ 4 ∷ 5 ∷ []))
    ∷ weight_built yard yard_prices (districts yard yard_prices (5 ∷ []))
    ∷ weight_built less_yard yard_prices (districts less_yard yard_prices (2 ∷ 5 ∷ []))
    ∷ weight_built ring ring_prices (districts ring ring_prices (1 ∷ 3 ∷ []))
    ∷ weight_built apart apart_prices (districts apart apart_prices (2 ∷ 4 ∷ []))
    ∷ weight_built (graph 1 0 [] []) (prices []) (districts (graph 1 0 [] []) (prices []) [])
    ∷ weight_built (graph 2 0 [] []) (prices []) (districts (graph 2 0 [] []) (prices []) [])
    ∷ [])
    ≡ (some (pos 12) ∷ some (pos 12) ∷ some (pos 12) ∷ some (pos 16) ∷ some (negsuc 8) ∷ none ∷ some (pos 0) ∷ none ∷ [])

-- lists of ends: of five rows, and of none
abbrev EndsHold : Type 0
EndsHold =
    (
    rises_to 5 0 (2 ∷ 5 ∷ []) ∷ rises_to 5 0 (1 ∷ 2 ∷ 3 ∷ 4 ∷ 5 ∷ []) ∷ rises_to 5 0 (5 ∷ [])
    ∷ rises_to 5 0 (4 ∷ []) ∷ rises_to 5 0 (6 ∷ []) ∷ rises_to 5 0 (5 ∷ 5 ∷ []) ∷ rises_to 5 0 (3 ∷ 2 ∷ 5 ∷ []) ∷ rises_to 5 0 (0 ∷ 5 ∷ []) ∷ rises_to 5 0 []
    ∷ rises_to 0 0 [] ∷ rises_to 0 0 (0 ∷ [])
    ∷ [])
    ≡ (true ∷ true ∷ true ∷ false ∷ false ∷ false ∷ false ∷ false ∷ false ∷ true ∷ false ∷ [])

-- no forest: all rows of a ring; rows that leave a group of vertices out; a row from outside the set
abbrev NoForestsHold : Type 0
NoForestsHold =
    (Forest ring (up_to 3) (up_to 3) → ⊥) × (Forest apart (up_to 4) (these (3 ∷ 4 ∷ [])) → ⊥) × (Forest yard (these (1 ∷ [])) (these (1 ∷ 2 ∷ [])) → ⊥)

-- the theorem: each trial gives what it should
abbrev pub TrialsHold : Type 0
TrialsHold = ForestsHold × AllForestsHold × TreesHold × EndsHold × NoForestsHold
