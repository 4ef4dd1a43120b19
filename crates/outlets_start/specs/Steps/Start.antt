-- The tree that the exchanges at r start from, which prefers rows at r, as it grows: the slices of its fragment. Assumes nothing.
use Rattle.std.specs.Prelude.{ℕ, ◌≤◌, ℤ, Bool, not, ◌≡◌}
use Rattle.std.proofs.Math.Option.{some}
use Rattle.outlets_theory.specs.Degree.{start_of, start}
use Rattle.graph_theory.specs.Graph.{Graph}
use Rattle.mst1.specs.Steps.Growth.{touching}
use Rattle.slice.specs.Slices.{size}
use Rattle.star_spec.specs.Mst1.{chosen_rows}
use Rattle.star_spec.specs.Refusals.{is_none}

-- n vertices, and of the positions 1 to 1,024 the rows of a set, with their left and their right ends
abbrev pub graph_in : (a b : ℕ → ℕ) → (rows : ℕ → Bool) → ℕ → Graph
graph_in a b rows n = record { n = n; m = size; a = a; b = b; rows = rows }

-- the fragment of k vertices: the rows chosen, and the rows whose left and whose right end is in it
pub record Begun (g : Graph) (w : ℕ → ℤ) (r k : ℕ) (lefts rights chosen : ℕ → Bool) : Type 0 where
  pub vertices : ℕ → Bool
  pub more : 2 ≤ k
  pub grown : start_of k g w r ≡ some (record { vertices = vertices; chosen = chosen })
  pub left : lefts ≡ touching g.a g.rows vertices
  pub right : rights ≡ touching g.b g.rows vertices

-- what is grown: whether there is a tree, and its rows, none where there is no tree
pub record Starts (g : Graph) (w : ℕ → ℤ) (r : ℕ) (whole : Bool) (chosen : ℕ → Bool) : Type 0 where
  pub all : whole ≡ not (is_none (start g w r))
  pub rows : chosen ≡ chosen_rows (start g w r)
