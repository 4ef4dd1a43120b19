-- Trials: what is kept of each row at vertex 1 of two triangles, over the start, and after the first exchange. Assumes nothing.
use Rattle.std.specs.Prelude.{ℕ, List, [], ◌∷◌, ◌≡◌}
use Rattle.graph_theory.specs.Yard.{set_of, listed}
use Rattle.outlets_cuts_theory.specs.Cuts.{cut_of, lightest_for, cut_turned}
use Rattle.outlets_forest_theory.specs.Forest.{forest_away}
use Rattle.outlets_theory.specs.Trials.{sides, sides_prices}

-- the rows 1 to 4 of two triangles at vertex 1 are the start: 1-2 weight 1, 1-3 weight 4, 1-4 weight 2, 1-5 weight 20; rows 5 (2-3) and 6 (4-5) could come in
abbrev pub given : List (List ℕ)
given =
    listed 6 (cut_of sides (forest_away sides sides_prices 1) (set_of (1 ∷ 2 ∷ 3 ∷ 4 ∷ [])) 1)
    ∷ listed 6 (cut_of sides (forest_away sides sides_prices 1) (set_of (1 ∷ 2 ∷ 3 ∷ 4 ∷ [])) 4)
    ∷ (lightest_for sides sides_prices (forest_away sides sides_prices 1) (set_of (1 ∷ 2 ∷ 3 ∷ 4 ∷ [])) 2 ∷ lightest_for sides sides_prices (forest_away sides sides_prices 1) (set_of (1 ∷ 2 ∷ 3 ∷ 4 ∷ [])) 3 ∷ [])
    -- row 4 has gone out for row 6: row 3 has none left, row 1 keeps what it had
    ∷ listed 6 (cut_turned sides (forest_away sides sides_prices 1) (set_of (1 ∷ 2 ∷ 3 ∷ 4 ∷ [])) 4 6 3)
    ∷ listed 6 (cut_turned sides (forest_away sides sides_prices 1) (set_of (1 ∷ 2 ∷ 3 ∷ 4 ∷ [])) 4 6 1)
    ∷ []

abbrev pub expected : List (List ℕ)
expected = (5 ∷ []) ∷ (6 ∷ []) ∷ (5 ∷ 6 ∷ []) ∷ [] ∷ (5 ∷ []) ∷ []

abbrev pub TrialsHold : Type 0
TrialsHold = given ≡ expected
