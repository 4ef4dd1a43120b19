-- The first two passes: the marks that are kept lie in a spanning tree, and with the rows added they are one.
-- Main statements: rows inside a spanning tree, with a row whose ends they do not join, lie inside a spanning tree (extend-tree).
-- Assumes nothing.
use Prim.Native.Nat.{ℕ, ◌≤◌}
use lib.IntN.{pos}
use lib.Signed.{≤ℤ_refl}
use mathlib.Core.Bool.{Bool, true, false, xor}
use mathlib.Core.Path.{◌≡◌}
use native.Mathlib.Omega.{arith}
use Rattle.graph_theory.proofs.Least.{cut-property}
use Rattle.graph_theory.proofs.Reach.{walk-then, walk-back, walk-joined, joined-self, joined-row, connected-count}
use Rattle.graph_theory.specs.Graph.{Graph, Sound, Inside, Walk, stay, ahead, back, crosses, joined}
use Rattle.graph_theory.specs.Tree.{SpanningTree}
use Rattle.mend_theory.specs.Mending.{joins_ends}
use Rattle.rowset.proofs.Laws.{count-monotone, xor_self}
use Rattle.rowset.proofs.Members.{put_all}
use Rattle.rowset.specs.Sets.{put}

-- a spanning tree that has the rows of F
pub record Extended (g : Graph) (F : ℕ → Bool) : Type 0 where
  pub set : ℕ → Bool
  pub tree : SpanningTree g set
  pub has : (i : ℕ) → F i ≡ true → set i ≡ true

-- where each row of S is led around over T, a walk over S is too
pub walk-around : {g : Graph} {S T : ℕ → Bool} {u v : ℕ} → ((i : ℕ) → S i ≡ true → Walk g T (g.a i) (g.b i)) → Walk g S u v → Walk g T u v
walk-around h stay = stay
walk-around h (ahead i e p) = walk-then (walk-around h p) (h i e)
walk-around h (back i e p) = walk-then (walk-around h p) (walk-back (h i e))

-- fewer rows lie in the same spanning tree
pub extended-fewer : {g : Graph} {F F' : ℕ → Bool} → ((i : ℕ) → F' i ≡ true → F i ≡ true) → Extended g F → Extended g F'
extended-fewer h x = record { set = x.set; tree = x.tree; has = λ i t. x.has i (h i t) }

module _ (g : Graph) (ok : Sound g) where
  -- rows of a spanning tree lie in one with any further row whose ends they do not join
  pub extend-tree : (F : ℕ → Bool) → Extended g F → (i : ℕ) → g.rows i ≡ true → joins_ends g F i ≡ false → Extended g (put F i)
  unfolding joins_ends crosses xor
  extend-tree F x i r apart =
      let y = cut-property g ok (λ k. pos 0) x.set x.tree side i r (rw (joined-self g F (g.a i), apart)) (λ f h c. ≤ℤ_refl (pos 0)) in
      record { set = y.set; tree = y.tree; has = put_all (λ (k : ℕ). y.set k ≡ true) F i (λ k h. y.kept k (x.has k h) (inner k h)) y.brought }
    where
      side : ℕ → Bool
      side = joined g F (g.a i)

      inner : (k : ℕ) → F k ≡ true → crosses g side k ≡ false
      inner k h =
          let (l, u) = ok.left i r in
          rw (joined-row g ok F (λ m t. x.tree.inside m (x.has m t)) (g.a i) l u k h) (xor_self (side (g.b k)))

  -- rows of a spanning tree that lead around each row of the graph are a spanning tree
  pub around-tree : (F : ℕ → Bool) → Extended g F → ((i : ℕ) → g.rows i ≡ true → Walk g F (g.a i) (g.b i)) → SpanningTree g F
  around-tree F x h =
      let reached : (v : ℕ) → 1 ≤ v → v ≤ g.n → Walk g F 1 v = λ v l u. walk-around (λ i t. h i (x.tree.inside i t)) (x.tree.reached v l u) in
      let inside : Inside g F = λ i t. x.tree.inside i (x.has i t) in
      record {
        inside = inside;
        marks = omega (arith, x.tree.marks, count-monotone g.m F x.set x.has, connected-count g ok F inside 1 (omega arith) ok.vertex (λ v l u. walk-joined g ok F inside 1 (omega arith) ok.vertex v (reached v l u)));
        reached = reached;
      }
