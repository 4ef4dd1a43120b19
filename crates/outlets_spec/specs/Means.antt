-- What the tree with exactly t rows at vertex r means of the table's spanning trees, and which refusals there are.
-- Cites definitions alone; the proof is proofs/Means.antt. Assumes nothing.
use Rattle.std.specs.Prelude.{ℕ, ℤ, Bool, List, ◌↔◌, ◌≡◌}
use Rattle.std.proofs.Math.Option.{some}
use Rattle.outlets_theory.specs.Degree.{rows_at}
use Rattle.outlets_theory.specs.Promise.{LeastWith}
use Rattle.graph_theory.specs.Graph.{Connected}
use Rattle.graph_theory.specs.Tree.{SpanningTree}
use Rattle.refusal.specs.declared.Refusal.{Refusal}
use Rattle.rowset.specs.Integers.{total}
use Rattle.star_spec.specs.Accepted.{Vertex}
use Rattle.star_spec.specs.Call.{Call, rows_of, graph_of, weight_of, claim_of}
use Rattle.star_spec.specs.Mst1.{unbuilt, tree_built}
use Rattle.star_spec.specs.Refusals.{Accepted, table_causes, refusal}
use Rattle.outlets_spec.specs.Outlets.{outlets, outlet_marks}

-- a column of marks is a spanning tree with exactly t rows at r, of this weight, and every spanning tree with exactly t rows at r weighs at least as much (LeastWith: tree, exactly, least)
pub record Marked (c : Call) (r t : ℕ) (weight : ℤ) (marks : List ℕ) : Type 0 where
  pub rows : ℕ → Bool
  pub marked : marks ≡ claim_of (rows_of c) rows
  pub least : LeastWith (graph_of c) (weight_of c) r t rows
  pub weighs : total (rows_of c) (weight_of c) rows ≡ weight

-- some spanning tree has exactly t rows at r
abbrev pub Possible : Call → (r t : ℕ) → Type 0
Possible c r t = (S : ℕ → Bool) × SpanningTree (graph_of c) S × (rows_at (graph_of c) r S ≡ t)

-- of an accepted table and a vertex r of it
pub record OutletsMean (c : Call) (r t : ℕ) : Type 0 where
  -- what is answered and marked is a least one of these trees
  pub built : (x : ℤ) → outlets c r t ≡ tree_built x → Marked c r t x (outlet_marks c r t)
  -- there is an answer exactly where there is such a tree
  pub builds : ((x : ℤ) × (outlets c r t ≡ tree_built x)) ↔ Possible c r t
  -- 11 exactly where the table is not connected, 19 exactly where it is connected and there is no such tree; place 0
  pub eleven : (outlets c r t ≡ unbuilt (record { number = 11; place = 0 })) ↔ (Connected (graph_of c) → ⊥)
  pub nineteen : (outlets c r t ≡ unbuilt (record { number = 19; place = 0 })) ↔ (Connected (graph_of c) × (Possible c r t → ⊥))

-- the theorem: over all accepted tables of either kind, every vertex and every number; and what is refused before
pub record OutletsTheorem : Type 0 where
  pub means : (c : Call) → Accepted c → (r : ℕ) → Vertex c.n r → (t : ℕ) → OutletsMean c r t
  -- a vertex outside 1 to n is refused 7, and a table that is not accepted as every procedure refuses it
  pub seven : (c : Call) → Accepted c → (r : ℕ) → (Vertex c.n r → ⊥) → (t : ℕ) → outlets c r t ≡ unbuilt (record { number = 7; place = 0 })
  pub table : (c : Call) (x : Refusal) → refusal (table_causes c) ≡ some x → (r t : ℕ) → outlets c r t ≡ unbuilt x
  -- a refusal leaves the marks as they were
  pub kept : (c : Call) (r t : ℕ) (x : Refusal) → outlets c r t ≡ unbuilt x → outlet_marks c r t ≡ c.mark
