-- Demand 3: what the checker's verdict and the builder's tree are worth, over every accepted table and every claim of bytes.
-- Cites definitions alone; the proof is proofs/Demand3.antt. Assumes nothing.
use Rattle.std.specs.Prelude.{ℕ, suc, ◌≤◌, ◌<◌, ℤ, pos, ◌+ℤ◌, Bool, true, false, List, ◌↔◌, ◌≡◌, length, ◌≤ℤ◌}
use Rattle.graph_theory.specs.Graph.{Walk}
use Rattle.graph_theory.specs.Tree.{SpanningTree}
use Rattle.refusal.specs.declared.Refusal.{Refusal}
use Rattle.rowset.specs.Bytes.{in_row}
use Rattle.rowset.specs.Sets.{count}
use Rattle.star_spec.specs.Accepted.{Vertex, Row}
use Rattle.star_spec.specs.Call.{Call, rows_of, graph_of, marked, claimed, claim_weight, with_claim, exchanged}
use Rattle.star_spec.specs.Cst.{refused, passed, lighter, cst}
use Rattle.star_spec.specs.Mst1.{unbuilt, tree_built, mst1, mst1_marks}
use Rattle.star_spec.specs.Refusals.{Accepted}

-- at rows in use the bytes of the claim are 0 and 1 only
abbrev pub ZeroOrOne : Call → Type 0
ZeroOrOne c = (i : ℕ) → Row c i → in_row 1 c.mark i ≤ 1

-- the claim is a spanning tree: m bytes, 0 and 1 only, exactly n − 1 marks, every vertex joined to vertex 1 by a walk over marked rows. Bytes at rows not in use do not matter
pub record ClaimTree (c : Call) : Type 0 where
  pub bytes : length c.mark ≡ rows_of c
  pub zero-or-one : ZeroOrOne c
  pub spanning : SpanningTree (graph_of c) (claimed c)

-- the claim is a spanning tree, and every spanning tree of the table weighs at least as much
pub record LeastClaim (c : Call) : Type 0 where
  pub tree : ClaimTree c
  pub least : (other : List ℕ) → ClaimTree (with_claim c other) → claim_weight c ≤ℤ claim_weight (with_claim c other)

-- what an exchange is worth: out and in are rows in use, out is marked and in is not, and the exchange is a spanning tree, lighter by exactly the saving, a number of 1 to 4,294,967,295
pub record WorthExchange (c : Call) (out into saving : ℕ) : Type 0 where
  pub claim-tree : ClaimTree c
  pub out-row : Row c out
  pub in-row : Row c into
  pub out-marked : marked c.mark out ≡ true
  pub in-unmarked : marked c.mark into ≡ false
  pub tree : ClaimTree (with_claim c (exchanged c.mark out into))
  pub weight : claim_weight (with_claim c (exchanged c.mark out into)) +ℤ pos saving ≡ claim_weight c
  pub positive : 0 < saving
  pub small : saving ≤ 4294967295

-- the claim has exactly n − 1 marks
abbrev pub RightCount : Call → Type 0
RightCount c = suc (count (rows_of c) (claimed c)) ≡ c.n

-- why a claim over an accepted table is no spanning tree, by the refusal's number and place
pub data Fault (c : Call) : Refusal → Type 0 where
  -- 6: the byte of row i, a row in use, is neither 0 nor 1, and no such row stands above it
  bad-byte : (i : ℕ) → Row c i → 1 < in_row 1 c.mark i → ((k : ℕ) → Row c k → k < i → in_row 1 c.mark k ≤ 1)
      → Fault c (record { number = 6; place = i })
  -- 9: the marks are not n − 1
  bad-count : ZeroOrOne c → (RightCount c → ⊥) → Fault c (record { number = 9; place = 0 })
  -- 10: n − 1 marks, but no walk over marked rows leads from vertex 1 to vertex v, and v is the smallest such vertex
  cut_off : ZeroOrOne c → RightCount c → (v : ℕ) → Vertex c.n v → (Walk (graph_of c) (claimed c) 1 v → ⊥)
      → ((u : ℕ) → Vertex c.n u → u < v → Walk (graph_of c) (claimed c) 1 u)
      → Fault c (record { number = 10; place = v })

-- a mark column as the builder writes it: bytes 0 and 1 only, and 0 at every row that is not in use
pub record BuilderBytes (c : Call) (marks : List ℕ) : Type 0 where
  pub zero-or-one : (i : ℕ) → in_row 1 marks i ≤ 1
  pub zero-elsewhere : (i : ℕ) → (Row c i → ⊥) → in_row 1 marks i ≡ 0

-- demand 3, at one accepted table and claim
pub record Holds (c : Call) : Type 0 where
  -- the checker passes the claim exactly when it is a spanning tree and none weighs less; what its yes or no is worth says Only.antt
  pub passes : ((weight : ℤ) × (alone : Bool) × (cst c ≡ passed weight alone)) ↔ LeastClaim c
  -- the weight stated with a pass is the claim's own
  pub weight : (weight : ℤ) (alone : Bool) → cst c ≡ passed weight alone → weight ≡ claim_weight c
  -- a spanning tree that is not passed comes back lighter
  pub not-passed : ClaimTree c → (LeastClaim c → ⊥) → (out into saving : ℕ) × (cst c ≡ lighter out into saving)
  -- and an exchange that comes back is worth it
  pub exchange : (out into saving : ℕ) → cst c ≡ lighter out into saving → WorthExchange c out into saving
  -- a claim that is no spanning tree is refused, and no other is; the refusal says why
  pub declines : ((r : Refusal) × (cst c ≡ refused r)) ↔ (ClaimTree c → ⊥)
  pub fault : (r : Refusal) → cst c ≡ refused r → Fault c r
  -- the builder refuses with number 11, and with no other, exactly when no claim is a spanning tree
  pub refuses : (mst1 c ≡ unbuilt (record { number = 11; place = 0 })) ↔ ((other : List ℕ) → ClaimTree (with_claim c other) → ⊥)
  pub refuses-only : (r : Refusal) → mst1 c ≡ unbuilt r → r ≡ record { number = 11; place = 0 }
  -- and then leaves the marks as they were
  pub kept : (r : Refusal) → mst1 c ≡ unbuilt r → mst1_marks c ≡ c.mark
  -- otherwise it builds a tree
  pub built : (other : List ℕ) → ClaimTree (with_claim c other) → (weight : ℤ) × (mst1 c ≡ tree_built weight)
  -- what it builds is passed by the checker over the same table, with the weight that the builder stated
  pub builds : (weight : ℤ) → mst1 c ≡ tree_built weight → (alone : Bool) × (cst (with_claim c (mst1_marks c)) ≡ passed weight alone)
  -- and its bytes are 0 and 1 only, 0 at rows not in use
  pub bytes : (weight : ℤ) → mst1 c ≡ tree_built weight → BuilderBytes c (mst1_marks c)

-- demand 3, whole
abbrev pub Demand3 : Type 0
Demand3 = (c : Call) → Accepted c → Holds c
