-- Exchanging one row of a forest for another: a forest again, where the row that goes out is on the path of the row that comes in.
-- Main statements: a row that the rows of a ringless set do not join closes no ring (ringless-put); the exchange (exchange-forest).
-- Assumes nothing.
use Prim.Native.Nat.{ℕ}
use mathlib.Core.Bool.{Bool, true}
use mathlib.Core.Logic.{◌≢◌, ⊎_elim}
use mathlib.Core.Path.{◌≡◌, sym, ◌∙◌, subst}
use native.Mathlib.Decide.{ℕ_discrete}
use Rattle.districts_theory.proofs.Walks.{Through, walk-replaced, around-or-through}
use Rattle.districts_theory.specs.Forest.{Ringless, Forest}
use Rattle.graph_theory.proofs.Reach.{Joins, rightward, leftward, walk-then, walk-back, walk-over-more}
use Rattle.graph_theory.specs.Graph.{Graph, Walk, stay, ahead}
use Rattle.graph_theory.specs.Tree.{exchange}
use Rattle.rowset.proofs.Laws.{put_same, put_keeps, put-cases, take_out-other, take_out-in}
use Rattle.rowset.proofs.Members.{put_all}
use Rattle.rowset.specs.Sets.{put, take_out}

-- a walk between the two vertices that row i joins is one between its ends
joined-ends : {g : Graph} {S : ℕ → Bool} {i x y : ℕ} → Joins g i x y → Walk g S x y → Walk g S (g.a i) (g.b i)
joined-ends rightward p = p
joined-ends leftward p = walk-back p

-- the rows of a set without row i are rows of a larger set without it
take_out-more : (F F' : ℕ → Bool) (i k : ℕ) → (F k ≡ true → F' k ≡ true) → take_out F i k ≡ true → take_out F' i k ≡ true
take_out-more F F' i k h t =
    let (e, ne) = take_out-in F i k t in
    take_out-other F' i k ne ∙ h e

-- fewer rows have no ring either
ringless-fewer : {g : Graph} {F F' : ℕ → Bool} → ((i : ℕ) → F' i ≡ true → F i ≡ true) → Ringless g F → Ringless g F'
ringless-fewer {F = F} {F' = F'} h r i e p = r i (h i e) (walk-over-more (λ k t. take_out-more F' F i k (h k) t) p)

-- where one walk goes through row i, another between the same vertices joins the ends of i
pub through-ends : {g : Graph} {S S' : ℕ → Bool} {u v i : ℕ} → Walk g S' u v → ((j : ℕ) → take_out S i j ≡ true → S' j ≡ true) → Through g S u v i → Walk g S' (g.a i) (g.b i)
through-ends p h t =
    joined-ends t.joins (walk-then (walk-back (walk-over-more h t.before)) (walk-then p (walk-back (walk-over-more h t.after))))

-- a row whose ends a set without a ring does not join closes no ring
pub ringless-put : {g : Graph} {F : ℕ → Bool} (i : ℕ) → Ringless g F → (Walk g F (g.a i) (g.b i) → ⊥) → Ringless g (put F i)
ringless-put {g} {F} i r apart k e p = elim (ℕ_discrete k i) [
  | yes q ↦ apart (subst (λ (x : ℕ). Walk g F (g.a x) (g.b x)) q (walk-over-more (λ j t. let (x, ne) = take_out-in (put F i) k j t in other j x (λ z. ne (z ∙ sym q))) p))
  | no ne ↦
      let on = other k e ne in
      ⊎_elim
      (λ around. r k on (walk-over-more (λ j t. let (x, ni) = take_out-in (take_out (put F i) k) i j t in take_out-more (put F i) F k j (λ y. other j y ni) x) around))
      (λ t. apart (through-ends (ahead k on stay) (λ j s. let (x, ni) = take_out-in (take_out (put F i) k) i j s in other j (take_out-in (put F i) k j x).0 ni) t))
      (around-or-through p i)
]
  where
    other : (j : ℕ) → put F i j ≡ true → j ≢ i → F j ≡ true
    other j t ne = ⊎_elim (λ x. x) (λ q. absurd (ne q)) (put-cases F i j t)

module _ (g : Graph) (X F : ℕ → Bool) (forest : Forest g X F) where
  -- a row of X whose ends a walk over the forest joins through row e: it can come in for e
  pub exchange-forest : (e f : ℕ) → X f ≡ true → Through g F (g.a f) (g.b f) e → Forest g X (exchange F e f)
  unfolding exchange
  exchange-forest e f x t =
      record {
        inside = inside;
        ringless = ringless-put f (ringless-fewer (λ i h. (take_out-in F e i h).0) forest.ringless) (λ p. forest.ringless e t.row (through-ends p (λ j h. h) t));
        joins = λ u v. (walk-over-more inside, λ p. walk-replaced rows ((forest.joins u v).1 p));
      }
    where
      F' : ℕ → Bool
      F' = put (take_out F e) f

      inside : (i : ℕ) → F' i ≡ true → X i ≡ true
      inside = put_all (λ (i : ℕ). X i ≡ true) (take_out F e) f (λ i h. forest.inside i (take_out-in F e i h).0) x

      rows : (i : ℕ) → F i ≡ true → Walk g F' (g.a i) (g.b i)
      rows i h = elim (ℕ_discrete i e) [
        | yes q ↦ subst (λ (z : ℕ). Walk g F' (g.a z) (g.b z)) (sym q) (through-ends (ahead f (put_same (take_out F e) f) stay) (put_keeps (take_out F e) f) t)
        | no ne ↦ ahead i (put_keeps (take_out F e) f i (take_out-other F e i ne ∙ h)) stay
      ]
