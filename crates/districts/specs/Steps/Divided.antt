-- What is grown over a graph by runs: the forests' rows, and whether and by which rows there is a tree of them.
-- Assumes nothing.
use Rattle.std.specs.Prelude.{ℕ, ℤ, Bool, List, ◌≡◌}
use Rattle.districts_theory.specs.Districts.{forests, within}
use Rattle.graph_theory.specs.Graph.{Graph}
use Rattle.mst1.specs.Steps.Growth.{Grows}

pub record Divided (g : Graph) (w : ℕ → ℤ) (ends : List ℕ) (rows : ℕ → Bool) (whole : Bool) (chosen : ℕ → Bool) : Type 0 where
  pub all : rows ≡ forests g w ends
  pub tree : Grows (within g rows) w whole chosen
