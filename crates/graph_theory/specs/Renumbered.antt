-- Graphs whose rows have other numbers: a set of rows carried over, and what stays. Striking rows and packing the others is such a change of numbers.
-- Cites definitions alone; the proof is proofs/Renumbered.antt. Assumes nothing.
use Rattle.std.specs.Prelude.{ℕ, ℤ, Bool, true, ◌≡◌}
use Rattle.graph_theory.specs.Graph.{Graph, Sound, Inside, Walk}
use Rattle.graph_theory.specs.Least.{Least}
use Rattle.graph_theory.specs.Only.{Only}
use Rattle.graph_theory.specs.Tree.{SpanningTree}
use Rattle.rowset.specs.Integers.{total}
use Rattle.rowset.specs.Sets.{both}

-- h has the vertices and the rows of g, with other numbers: row i of h is row place i of g, and row j of g is row number j of h
pub record Renumbered (g h : Graph) (place number : ℕ → ℕ) : Type 0 where
  pub vertices : h.n ≡ g.n
  pub placed : (i : ℕ) → h.rows i ≡ true → (g.rows (place i) ≡ true) × (number (place i) ≡ i)
  pub numbered : (j : ℕ) → g.rows j ≡ true → (h.rows (number j) ≡ true) × (place (number j) ≡ j)
  pub left : (i : ℕ) → h.rows i ≡ true → h.a i ≡ g.a (place i)
  pub right : (i : ℕ) → h.rows i ≡ true → h.b i ≡ g.b (place i)

-- each row of h weighs what it weighed as a row of g
abbrev pub SameWeights : Graph → (ℕ → ℕ) → (ℕ → ℤ) → (ℕ → ℤ) → Type 0
SameWeights h place w x = (i : ℕ) → h.rows i ≡ true → x i ≡ w (place i)

-- a set of rows of g carried over to h: each row under its number in h, and nothing else
unfoldable pub carried : Graph → (ℕ → ℕ) → (ℕ → Bool) → ℕ → Bool
carried h place S = both h.rows (λ i. S (place i))

-- what stays of the sets of rows of g, where w are the weights in g and x those in h
pub record Stays (g h : Graph) (place : ℕ → ℕ) (w x : ℕ → ℤ) : Type 0 where
  -- a walk leads on as before
  pub walk : (S : ℕ → Bool) → Inside g S → (u v : ℕ) → Walk g S u v → Walk h (carried h place S) u v
  -- a set of rows keeps its weight
  pub weight : (S : ℕ → Bool) → Inside g S → total h.m x (carried h place S) ≡ total g.m w S
  -- a spanning tree stays one, a least one stays least, and one that no other equals in weight stays the only one
  pub spanning : (S : ℕ → Bool) → SpanningTree g S → SpanningTree h (carried h place S)
  pub least : (S : ℕ → Bool) → Least g w S → Least h x (carried h place S)
  pub only : (S : ℕ → Bool) → SpanningTree g S → Only g w S → Only h x (carried h place S)

-- it stays on the way there and on the way back, and what went there and back is as it was
pub record Keeps (g h : Graph) (place number : ℕ → ℕ) (w x : ℕ → ℤ) : Type 0 where
  pub there : Stays g h place w x
  pub back : Stays h g number x w
  pub there_and_back : (S : ℕ → Bool) → Inside g S → carried g number (carried h place S) ≡ S
  pub back-and-there : (T : ℕ → Bool) → Inside h T → carried h place (carried g number T) ≡ T

-- the theorem, over all sound graphs
abbrev pub RenumberingKeeps : Type 0
RenumberingKeeps =
    (g h : Graph) → Sound g → Sound h → (place number : ℕ → ℕ) → Renumbered g h place number → (w x : ℕ → ℤ) → SameWeights h place w x → Keeps g h place number w x
