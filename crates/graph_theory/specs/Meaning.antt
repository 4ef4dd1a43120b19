-- What the computed definitions mean in the words of walks: joined vertices, the first vertex that is not joined, and tree paths.
-- Cites definitions alone; the proof is proofs/Meaning.antt. Assumes nothing.
use Rattle.std.specs.Prelude.{ℕ, suc, ◌≤◌, Bool, true, not, ◌↔◌, ◌≡◌}
use Rattle.graph_theory.specs.Graph.{Graph, Sound, Inside, Walk, joined}
use Rattle.graph_theory.specs.Tree.{SpanningTree, on_path, uses, once}
use Rattle.rowset.specs.Sets.{one_of, uppermost}

-- v is a vertex of the graph
abbrev pub Vertex : Graph → ℕ → Type 0
Vertex g v = (1 ≤ v) × (v ≤ g.n)

-- of a set S of rows and a vertex s
pub record JoinedMeans (g : Graph) (S : ℕ → Bool) (s : ℕ) : Type 0 where
  -- a vertex is joined to s exactly when a walk over rows of S leads to it
  pub joined-walk : (v : ℕ) → (joined g S s v ≡ true) ↔ Walk g S s v
  -- the first vertex that is not joined to s is the smallest without a walk
  pub first-unjoined : (j : ℕ) → uppermost g.n (λ v. not (joined g S s v)) ≡ suc j → (Walk g S s (suc j) → ⊥) × (suc j ≤ g.n) × ((v : ℕ) → 1 ≤ v → v ≤ j → Walk g S s v)
  -- and where there is none every vertex has a walk
  pub all-joined : uppermost g.n (λ v. not (joined g S s v)) ≡ 0 → (v : ℕ) → Vertex g v → Walk g S s v

-- of a spanning tree S and two vertices u and v
pub record PathMeans (g : Graph) (S : ℕ → Bool) (u v : ℕ) : Type 0 where
  -- the rows of the tree path are those of a walk from u to v that uses no row twice
  pub path-walk : (p : Walk g S u v) × ((k : ℕ) → uses p k ≡ on_path g S u v k) × (once p ≡ true)
  -- and exactly those that every walk over the tree from u to v uses
  pub every-walk : (k : ℕ) → (on_path g S u v k ≡ true) ↔ ((p : Walk g S u v) → uses p k ≡ true)
  -- the xor of the columns of u and v, from any source s, is the path between u and v
  pub xor-columns : (s : ℕ) → Vertex g s → one_of (on_path g S s u) (on_path g S s v) ≡ on_path g S u v

pub record Meaning (g : Graph) : Type 0 where
  pub of-joined : (S : ℕ → Bool) → Inside g S → (s : ℕ) → Vertex g s → JoinedMeans g S s
  pub of-paths : (S : ℕ → Bool) → SpanningTree g S → (u v : ℕ) → Vertex g u → Vertex g v → PathMeans g S u v

-- the ties between the definitions and the document's words, over every sound graph
abbrev pub Meanings : Type 0
Meanings = (g : Graph) → Sound g → Meaning g
