-- Districts: the rows are divided into runs, each run has its grown forest, and a tree is built from the forests' rows alone.
-- At the end, what that is worth, as a theorem over every sound graph. Assumes nothing.
use Rattle.std.specs.Prelude.{ℕ, eqb, ltb, ℤ, Bool, true, ◌&&◌, List, [], ◌∷◌, ◌≡◌}
use Rattle.std.proofs.Math.Option.{Option, none, some}
use Rattle.districts_theory.specs.Forest.{LeastForest}
use Rattle.districts_theory.specs.Growing.{grown_forest}
use Rattle.graph_theory.specs.Builder.{Fragment, tree}
use Rattle.graph_theory.specs.Graph.{Graph, Sound, Inside}
use Rattle.graph_theory.specs.Least.{Least, Good}
use Rattle.graph_theory.specs.Tree.{SpanningTree}
use Rattle.rowset.specs.Sets.{empty, up_to, both, either, without}

-- a run: the rows of the graph at positions p + 1 to q
unfoldable pub run : Graph → ℕ → ℕ → ℕ → Bool
run g p q = both g.rows (without (up_to q) (up_to p))

-- each end is above the one before, the first above p, and the last is m; there is no end only where p is m
unfoldable pub rises_to : ℕ → ℕ → List ℕ → Bool
rises_to m p [] = eqb p m
rises_to m p (q ∷ ends) = ltb p q && rises_to m q ends

-- the forests of the runs that have these ends, the first of which begins after p
unfoldable pub forests_after : Graph → (ℕ → ℤ) → ℕ → List ℕ → ℕ → Bool
forests_after g w p [] = empty
forests_after g w p (q ∷ ends) = either (grown_forest g w (run g p q)) (forests_after g w q ends)

-- all the forests' rows
unfoldable pub forests : Graph → (ℕ → ℤ) → List ℕ → ℕ → Bool
forests g w ends = forests_after g w 0 ends

-- the graph with these rows alone
abbrev pub within : Graph → (ℕ → Bool) → Graph
within g X = record { n = g.n; m = g.m; a = g.a; b = g.b; rows = X }

-- the tree that is built from the forests' rows alone, none where there is none
unfoldable pub districts : Graph → (ℕ → ℤ) → List ℕ → Option Fragment
districts g w ends = tree (within g (forests g w ends)) w

-- P holds of each run, by the position before it and its last
unfoldable pub EachRun : (ℕ → ℕ → Type 0) → ℕ → List ℕ → Type 0
EachRun P p [] = Unit {0}
EachRun P p (q ∷ ends) = P p q × EachRun P q ends

pub record Districts (g : Graph) (w : ℕ → ℤ) (ends : List ℕ) : Type 0 where
  -- the forests' rows are rows of the graph, and those in a run are a least forest of the run
  pub rows-alone : Inside g (forests g w ends)
  pub of-runs : EachRun (λ p q. LeastForest g w (run g p q) (both (forests g w ends) (run g p q))) 0 ends
  -- the tree lies inside the forests
  pub from-forests : (f : Fragment) → districts g w ends ≡ some f → (i : ℕ) → f.chosen i ≡ true → forests g w ends i ≡ true
  -- it is a least spanning tree of the whole graph, and good over the whole graph
  pub least-tree : (f : Fragment) → districts g w ends ≡ some f → Least g w f.chosen
  pub good-tree : (f : Fragment) → districts g w ends ≡ some f → Good g w f.chosen
  -- where none is built the whole graph has no spanning tree
  pub no-tree : districts g w ends ≡ none → (S : ℕ → Bool) → SpanningTree g S → ⊥

-- the theorem over every sound graph and every list of ends that divides its rows into runs; its proof is proofs/Districts.antt
abbrev pub DistrictsHold : Type 0
DistrictsHold = (g : Graph) → Sound g → (w : ℕ → ℤ) (ends : List ℕ) → rises_to g.m 0 ends ≡ true → Districts g w ends
