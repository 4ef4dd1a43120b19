-- A graph without one of its rows: walks, tree paths and spanning trees in it and in the whole graph.
-- Main statements: a spanning tree of the graph without row k is a spanning tree of the whole that lacks row k, and back (lacking-tree, tree-lacking);
-- where the graph is connected and a route leads around row k, it is connected without it (route-connected).
-- Assumes nothing.
use Prim.Native.Nat.{ℕ, zero, suc}
use mathlib.Core.Bool.{Bool, false}
use mathlib.Core.Path.{◌≡◌, refl, ◌∙◌, ap, fun_ext}
use native.Mathlib.Decide.{ℕ_discrete}
use Rattle.graph_theory.proofs.Reach.{walk-then, walk-back}
use Rattle.graph_theory.specs.Graph.{Graph, Sound, Walk, stay, ahead, back, Connected, crosses, with_ends, step, grow, joined}
use Rattle.graph_theory.specs.Tree.{SpanningTree, on_path, uses}
use Rattle.price_theory.specs.Breaking.{lacking, Route}
use Rattle.rowset.proofs.Laws.{clash, refuted, take_out-same, take_out-other, take_out-in}
use Rattle.rowset.specs.Sets.{take_out}

module _ (g : Graph) (k : ℕ) where
  pub lacking-sound : Sound g → Sound (lacking g k)
  lacking-sound ok =
      record {
        vertex = ok.vertex;
        position = λ i e. ok.position i (take_out-in g.rows k i e).0;
        left = λ i e. ok.left i (take_out-in g.rows k i e).0;
        right = λ i e. ok.right i (take_out-in g.rows k i e).0;
        apart = λ i e. ok.apart i (take_out-in g.rows k i e).0;
      }

  -- a walk over the same rows, there and back
  pub lacking-walk : {S : ℕ → Bool} {u v : ℕ} (p : Walk (lacking g k) S u v) → (q : Walk g S u v) × (uses q ≡ uses p)
  unfolding uses
  lacking-walk stay = (stay, refl)
  lacking-walk (ahead i e p) = let (q, same) = lacking-walk p in (ahead i e q, rw same)
  lacking-walk (back i e p) = let (q, same) = lacking-walk p in (back i e q, rw same)

  pub walk-lacking : {S : ℕ → Bool} {u v : ℕ} (p : Walk g S u v) → (q : Walk (lacking g k) S u v) × (uses q ≡ uses p)
  unfolding uses
  walk-lacking stay = (stay, refl)
  walk-lacking (ahead i e p) = let (q, same) = walk-lacking p in (ahead i e q, rw same)
  walk-lacking (back i e p) = let (q, same) = walk-lacking p in (back i e q, rw same)

  -- paths are the same
  lacking-ends : (Q : ℕ → Bool) (i : ℕ) → with_ends (lacking g k) Q i ≡ with_ends g Q i
  unfolding with_ends
  lacking-ends Q zero = refl
  lacking-ends Q (suc i) = refl

  lacking-grow : (S : ℕ → Bool) (n : ℕ) (Q : ℕ → Bool) → grow (lacking g k) S n Q ≡ grow g S n Q
  unfolding grow step crosses
  lacking-grow S zero Q = refl
  lacking-grow S (suc n) Q = ap (step (lacking g k) S) (lacking-grow S n Q) ∙ lacking-ends (grow g S n Q) _

  pub lacking-path : (S : ℕ → Bool) (u v : ℕ) → on_path (lacking g k) S u v ≡ on_path g S u v
  unfolding on_path joined
  lacking-path S u v = fun_ext λ i. rw (lacking-grow)

  -- spanning trees
  pub lacking-tree : (S : ℕ → Bool) → SpanningTree (lacking g k) S → SpanningTree g S × (S k ≡ false)
  lacking-tree S t = (
    record {
      inside = λ i e. (take_out-in g.rows k i (t.inside i e)).0;
      marks = t.marks;
      reached = λ v l u. (lacking-walk (t.reached v l u)).0;
    },
    refuted (S k) (λ e. clash (t.inside k e) (take_out-same g.rows k)),
  )

  pub tree-lacking : (S : ℕ → Bool) → SpanningTree g S → S k ≡ false → SpanningTree (lacking g k) S
  tree-lacking S t out =
      record {
        inside = λ i e. take_out-other g.rows k i (λ q. clash e (ap S q ∙ out)) ∙ t.inside i e;
        marks = t.marks;
        reached = λ v l u. (walk-lacking (t.reached v l u)).0;
      }

  -- a walk that goes around row k by a route
  around : Route g k → {u v : ℕ} → Walk g g.rows u v → Walk g (take_out g.rows k) u v
  around p stay = stay
  around p (ahead i e q) = elim (ℕ_discrete i k) [
    | yes s ↦ rw s (walk-then (rw s at (around p q)) p)
    | no d ↦ ahead i (take_out-other g.rows k i d ∙ e) (around p q)
  ]
  around p (back i e q) = elim (ℕ_discrete i k) [
    | yes s ↦ rw s (walk-then (rw s at (around p q)) (walk-back p))
    | no d ↦ back i (take_out-other g.rows k i d ∙ e) (around p q)
  ]

  pub route-connected : Connected g → Route g k → Connected (lacking g k)
  route-connected joins p v l u = (walk-lacking (around p (joins v l u))).0
