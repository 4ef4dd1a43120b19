-- The graph that columns of ends and a slice of rows describe, the tree that grows on it, and the rows by which its fragment is known.
-- Assumes nothing.
use Rattle.std.specs.Prelude.{Option, Some, None, ℕ, ◌≤◌, Bool, true, not, ◌&&◌, List, ◌≡◌, ℤ}
use Rattle.std.proofs.Math.Option.{some}
use Rattle.graph_theory.specs.Builder.{tree_of, tree}
use Rattle.graph_theory.specs.Graph.{Graph}
use Rattle.rowset.specs.Searches.{equal_to}
use Rattle.rowset.specs.Sets.{empty, up_to, both, either}
use Rattle.slice.specs.Slices.{size, component, written}
use Rattle.slice.specs.declared.Slice.{Slice}
use Rattle.star_spec.specs.Mst1.{chosen_rows}
use Rattle.star_spec.specs.Refusals.{is_none}
use Rattle.table.specs.Loads.{loaded_row}

-- n vertices, and of the positions 1 to 1,024 the rows that a slice selects, with their left and their right ends
abbrev pub graph_by : (ℕ → ℕ) → (ℕ → ℕ) → Slice → ℕ → Graph
graph_by a b rows n = record { n = n; m = size; a = a; b = b; rows = component rows }

-- the graph of a left and a right column as they are loaded, over the rows among the first m
abbrev pub loaded_graph : (n m : ℕ) → (rows : ℕ → Bool) → (left right : List ℕ) → Graph
loaded_graph n m rows left right =
    record { n = n; m = size; a = loaded_row 1 left; b = loaded_row 1 right; rows = both (up_to m) rows }

-- the rows of a tree, none where there is no tree
unfoldable pub chosen_in : Option Slice → ℕ → Bool
chosen_in None = empty
chosen_in (Some x) = component x

-- what is grown: whether there is a tree, and its rows, none where there is no tree
pub record Grows (g : Graph) (w : ℕ → ℤ) (whole : Bool) (chosen : ℕ → Bool) : Type 0 where
  pub all : whole ≡ not (is_none (tree g w))
  pub rows : chosen ≡ chosen_rows (tree g w)

-- the rows of a set whose end on one side is in the vertex set Q
unfoldable pub touching : (ℕ → ℕ) → (ℕ → Bool) → (ℕ → Bool) → ℕ → Bool
touching side rows Q i = rows i && Q (side i)

-- the fragment of k vertices: the rows chosen, and the rows whose left and whose right end is in it
pub record Reached (g : Graph) (w : ℕ → ℤ) (k : ℕ) (lefts rights chosen : ℕ → Bool) : Type 0 where
  pub vertices : ℕ → Bool
  pub more : 2 ≤ k
  pub grown : tree_of k g w ≡ some (record { vertices = vertices; chosen = chosen })
  pub left : lefts ≡ touching g.a g.rows vertices
  pub right : rights ≡ touching g.b g.rows vertices

-- the rows of a set whose end on one side is u or v
abbrev pub meeting : (ℕ → ℕ) → ℕ → ℕ → (ℕ → Bool) → ℕ → Bool
meeting side u v rows = either (equal_to side u rows) (equal_to side v rows)

-- the slices of the fragment of row i of a set of rows with these ends
pub record Begun (a b : ℕ → ℕ) (rows : ℕ → Bool) (i : ℕ) (lefts rights chosen : ℕ → Bool) : Type 0 where
  pub left : lefts ≡ meeting a (a i) (b i) rows
  pub right : rights ≡ meeting b (a i) (b i) rows
  pub one : chosen ≡ written empty i true
