-- Trials: least spanning trees of the yard with each number of rows at each vertex, a table with a negative price, one where the exchange of least cost is not that of least price,
-- one vertex, and two groups that no row joins; each beside its weight and its rows. Assumes nothing.
use Rattle.std.specs.Prelude.{ℕ, ℤ, pos, negsuc, Bool, List, [], ◌∷◌, ◌≡◌}
use Rattle.std.proofs.Math.Option.{Option, none, some}
use Rattle.outlets_theory.specs.Degree.{tree_with}
use Rattle.graph_theory.specs.Graph.{Graph}
use Rattle.graph_theory.specs.Yard.{graph_from, prices_from, yard, yard_prices, listed}
use Rattle.rowset.specs.Integers.{total}

-- the triangle: 1-2 weight 5, 1-3 weight 5, 2-3 weight -10
abbrev pub triangle : Graph
triangle = graph_from 3 3 (1 ∷ 1 ∷ 2 ∷ []) (2 ∷ 3 ∷ 3 ∷ [])

abbrev pub triangle_prices : ℕ → ℤ
triangle_prices = prices_from (pos 5 ∷ pos 5 ∷ negsuc 9 ∷ [])

-- two triangles at vertex 1: 1-2 weight 1, 1-3 weight 4, 1-4 weight 2, 1-5 weight 20, 2-3 weight 3, 4-5 weight 5
abbrev pub sides : Graph
sides = graph_from 5 6 (1 ∷ 1 ∷ 1 ∷ 1 ∷ 2 ∷ 4 ∷ []) (2 ∷ 3 ∷ 4 ∷ 5 ∷ 3 ∷ 5 ∷ [])

abbrev pub sides_prices : ℕ → ℤ
sides_prices = prices_from (pos 1 ∷ pos 4 ∷ pos 2 ∷ pos 20 ∷ pos 3 ∷ pos 5 ∷ [])

-- the weight and the rows of what is built
unfoldable pub shown : ℕ → (ℕ → ℤ) → Option (ℕ → Bool) → Option (ℤ × List ℕ)
shown m w none = none
shown m w (some S) = some (total m w S, listed m S)

abbrev pub yard_with : ℕ → ℕ → Option (ℤ × List ℕ)
yard_with r t = shown 5 yard_prices (tree_with yard yard_prices r t)

abbrev pub triangle_with : ℕ → ℕ → Option (ℤ × List ℕ)
triangle_with r t = shown 3 triangle_prices (tree_with triangle triangle_prices r t)

abbrev pub TrialsHold : Type 0
TrialsHold =
    (yard_with 1 0 ≡ none)
    × (yard_with 1 1 ≡ some (pos 12, 2 ∷ 3 ∷ 4 ∷ []))
    × (yard_with 1 2 ≡ some (pos 12, 1 ∷ 2 ∷ 4 ∷ []))
    × (yard_with 1 3 ≡ some (pos 15, 1 ∷ 4 ∷ 5 ∷ []))
    × (yard_with 1 4 ≡ none)
    × (yard_with 2 0 ≡ none)
    × (yard_with 2 1 ≡ some (pos 12, 2 ∷ 3 ∷ 4 ∷ []))
    × (yard_with 2 2 ≡ some (pos 12, 1 ∷ 2 ∷ 4 ∷ []))
    × (yard_with 2 3 ≡ none)
    × (yard_with 3 0 ≡ none)
    × (yard_with 3 1 ≡ some (pos 12, 1 ∷ 2 ∷ 4 ∷ []))
    × (yard_with 3 2 ≡ some (pos 12, 2 ∷ 3 ∷ 4 ∷ []))
    × (yard_with 3 3 ≡ some (pos 14, 2 ∷ 3 ∷ 5 ∷ []))
    × (yard_with 3 4 ≡ none)
    × (yard_with 4 0 ≡ none)
    × (yard_with 4 1 ≡ some (pos 12, 1 ∷ 2 ∷ 4 ∷ []))
    × (yard_with 4 2 ≡ some (pos 12, 2 ∷ 3 ∷ 4 ∷ []))
    × (yard_with 4 3 ≡ none)
    × (triangle_with 1 0 ≡ none)
    × (triangle_with 1 1 ≡ some (negsuc 4, 2 ∷ 3 ∷ []))
    × (triangle_with 1 2 ≡ some (pos 10, 1 ∷ 2 ∷ []))
    × (shown 6 sides_prices (tree_with sides sides_prices 1 3) ≡ some (pos 12, 1 ∷ 2 ∷ 3 ∷ 6 ∷ []))
    × (shown 0 yard_prices (tree_with (graph_from 1 0 [] []) yard_prices 1 0) ≡ some (pos 0, []))
    × (shown 0 yard_prices (tree_with (graph_from 1 0 [] []) yard_prices 1 1) ≡ none)
    × (shown 1 yard_prices (tree_with (graph_from 3 1 (1 ∷ []) (2 ∷ [])) yard_prices 1 1) ≡ none)
