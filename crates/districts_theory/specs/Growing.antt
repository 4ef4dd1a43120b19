-- The forest of a set of rows that grows by one lightest row at a time. Weights are integers.
-- At the end, what it is worth, as a theorem over every sound graph. Assumes nothing.
use Rattle.std.specs.Prelude.{ℕ, zero, suc, ℤ, Bool, not, ◌&&◌}
use Rattle.districts_theory.specs.Forest.{LeastForest}
use Rattle.graph_theory.specs.Builder.{Fragment, nothing, cheapest}
use Rattle.graph_theory.specs.Graph.{Graph, Sound, Inside, crosses, with_ends}
use Rattle.rowset.specs.Sets.{both, put, first_of}

-- row i has neither end in the vertex set Q
unfoldable pub misses : Graph → (ℕ → Bool) → ℕ → Bool
misses g Q i = not (Q (g.a i)) && not (Q (g.b i))

-- the row to add: the uppermost lightest row of X with exactly one end in Q, else the uppermost lightest with neither end in Q, 0 if there is none
unfoldable pub next_row : Graph → (ℕ → ℤ) → (ℕ → Bool) → (ℕ → Bool) → ℕ
next_row g w X Q = first_of (cheapest g w (both X (crosses g Q))) (cheapest g w (both X (misses g Q)))

-- the fragment with row i and its ends; position 0 is no row, and adds nothing
unfoldable pub with_row : Graph → Fragment → ℕ → Fragment
with_row g f zero = f
with_row g f (suc j) = record { vertices = with_ends g f.vertices (suc j); chosen = put f.chosen (suc j) }

-- what has grown after k rows
unfoldable pub grown : Graph → (ℕ → ℤ) → (ℕ → Bool) → ℕ → Fragment
grown g w X zero = nothing
grown g w X (suc k) =
    let f = grown g w X k in
    with_row g f (next_row g w X f.vertices)

-- the rows of the whole forest: each row brings in a vertex, so that n rows are enough
unfoldable pub grown_forest : Graph → (ℕ → ℤ) → (ℕ → Bool) → ℕ → Bool
grown_forest g w X = (grown g w X g.n).chosen

-- the theorem: of every set X of rows of a sound graph, what grows is a least forest; its proof is proofs/Growing.antt
abbrev pub GrowsLeast : Type 0
GrowsLeast = (g : Graph) → Sound g → (w : ℕ → ℤ) (X : ℕ → Bool) → Inside g X → LeastForest g w X (grown_forest g w X)
