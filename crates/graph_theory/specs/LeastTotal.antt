-- The least total: what the built tree weighs. Its meaning, and that it does not depend on how the rows are numbered.
-- Cites definitions alone; the proofs are in proofs/LeastTotal.antt. Assumes nothing.
use Rattle.std.specs.Prelude.{ℕ, ℤ, Bool, ◌↔◌, ◌≡◌}
use Rattle.std.proofs.Math.Option.{Option, none, some}
use Rattle.graph_theory.specs.Builder.{Fragment, tree}
use Rattle.graph_theory.specs.Graph.{Graph, Sound, Connected}
use Rattle.graph_theory.specs.Least.{Least}
use Rattle.graph_theory.specs.Renumbered.{Renumbered, SameWeights}
use Rattle.graph_theory.specs.Tree.{SpanningTree}
use Rattle.rowset.specs.Integers.{total}

-- the weight of what was built
unfoldable pub weighed : Graph → (ℕ → ℤ) → Option Fragment → Option ℤ
weighed g w none = none
weighed g w (some f) = some (total g.m w f.chosen)

-- the least total, none where nothing is built
unfoldable pub least_total : Graph → (ℕ → ℤ) → Option ℤ
least_total g w = weighed g w (tree g w)

-- what the least total means
pub record LeastTotal (g : Graph) (w : ℕ → ℤ) : Type 0 where
  -- it is x exactly where some spanning tree weighs x and none weighs less
  pub is-least : (x : ℤ) → (least_total g w ≡ some x) ↔ ((S : ℕ → Bool) × Least g w S × (total g.m w S ≡ x))
  -- there is none exactly where there is no spanning tree
  pub no-tree : (least_total g w ≡ none) ↔ ((S : ℕ → Bool) → SpanningTree g S → ⊥)
  -- there is one exactly where the graph is connected
  pub connected : Connected g ↔ ((x : ℤ) × (least_total g w ≡ some x))

-- the theorem, over all sound graphs and all weights
abbrev pub LeastTotals : Type 0
LeastTotals = (g : Graph) → Sound g → (w : ℕ → ℤ) → LeastTotal g w

-- and the theorem that rows under other numbers have the same least total
abbrev pub LeastTotalStays : Type 0
LeastTotalStays =
    (g h : Graph) → Sound g → Sound h → (place number : ℕ → ℕ) → Renumbered g h place number → (w x : ℕ → ℤ) → SameWeights h place w x → least_total h x ≡ least_total g w
