-- The start, which prefers rows at r, is the builder's tree under prices that are low enough at r; so it is good under them, and has the most rows at r.
-- Defines: Low (an amount that makes each row at r lighter than any other row). Main statements: there is such an amount (low); the start is the builder's tree under it (start-built);
-- what is good under it has the most rows at r (low-good, by most-rows). Assumes nothing.
use Prim.Native.Nat.{ℕ, zero, suc, ◌+◌, ◌*◌, ◌≤◌}
use lib.IntN.{ℤ, pos, negsuc, ◌+ℤ◌}
use lib.Signed.{◌≤ℤ◌, ◌<ℤ◌}
use mathlib.Core.Bool.{Bool, true, false}
use mathlib.Core.Option.{Option, none, some}
use mathlib.Core.Path.{◌≡◌, refl, sym, ◌∙◌, ap}
use native.Mathlib.Omega.{arith}
use Rattle.outlets_theory.proofs.Shifted.{shifted, shifted_at, shifted-off}
use Rattle.outlets_theory.specs.Degree.{touches, preferred, first, next, fragment, start_of, start}
use Rattle.graph_theory.proofs.Builder.{cheapest-some, cheapest-none}
use Rattle.graph_theory.proofs.Path.{path_inside}
use Rattle.graph_theory.proofs.Reach.{same_truth}
use Rattle.graph_theory.specs.Builder.{Fragment, nothing, cheapest, choose}
use Rattle.graph_theory.specs.Builder as builder
use Rattle.graph_theory.specs.Graph.{Graph, Sound, Inside, crosses}
use Rattle.graph_theory.specs.Least.{Good}
use Rattle.graph_theory.specs.Tree.{SpanningTree}
use Rattle.rowset.proofs.Integers.{integers, up, down, plus}
use Rattle.rowset.proofs.Laws.{clash, refuted, uppermost-ext, sum-take_out}
use Rattle.rowset.proofs.Members.{both-in, in_both}
use Rattle.rowset.proofs.Searches.{smallest-in, smallest-least, in-smallest}
use Rattle.rowset.specs.Searches.{smallest}
use Rattle.rowset.specs.Sets.{both, first_of, sum}

-- with L added, a row of the graph is lighter than any row of the graph without
abbrev pub Low : Graph → (ℕ → ℤ) → ℤ → Type 0
Low g w L = (i k : ℕ) → g.rows i ≡ true → g.rows k ≡ true → (w i +ℤ L) <ℤ w k

-- a term of a sum is at most the sum
term : (m : ℕ) (s : ℕ → ℕ) (i : ℕ) → 1 ≤ i → i ≤ m → s i ≤ sum m s (λ k. true)
term m s i l u = omega (arith, sum-take_out m i s (λ k. true) l u refl)

-- there is such an amount
pub low : (g : Graph) → Sound g → (w : ℕ → ℤ) → (L : ℤ) × Low g w L
unfolding up down
low g ok w = (negsuc (2 * all), λ i k ri rk. let (li, ui) = ok.position i ri in let (lk, uk) = ok.position k rk in omega (arith, integers, plus (w i) (negsuc (2 * all)), term g.m size i li ui, term g.m size k lk uk))
  where
    size : ℕ → ℕ
    size i = up (w i) + down (w i)

    all : ℕ
    all = sum g.m size (λ k. true)

module _ (g : Graph) (ok : Sound g) (w : ℕ → ℤ) (r : ℕ) (L : ℤ) (low : Low g w L) where
  -- where X has a row at r, the lightest rows of X under the shifted prices are the lightest of its rows at r
  smallest-at : (X : ℕ → Bool) → Inside g X → (e : ℕ) → X e ≡ true → touches g r e ≡ true → (i : ℕ) → smallest g.m (shifted g w r L) X i ≡ smallest g.m w (both X (touches g r)) i
  smallest-at X inside e xe te i = same_truth _ _ fwd bwd
    where
      fwd : smallest g.m (shifted g w r L) X i ≡ true → smallest g.m w (both X (touches g r)) i ≡ true
      fwd s = go (touches g r i) refl
        where
          xi : X i ≡ true
          xi = smallest-in g.m (shifted g w r L) X i s

          go : (b : Bool) → touches g r i ≡ b → smallest g.m w (both X (touches g r)) i ≡ true
          go true t = in-smallest g.m w (both X (touches g r)) i (in_both X (touches g r) i xi t) (λ k l u h. let (xk, tk) = both-in X (touches g r) k h in omega (arith, integers, smallest-least g.m (shifted g w r L) X i k s l u xk, shifted_at g w r L i t, shifted_at g w r L k tk, plus (w i) L, plus (w k) L))
          go false t =
              let (l, u) = ok.position e (inside e xe) in
              absurd (omega (arith, integers, smallest-least g.m (shifted g w r L) X i e s l u xe, shifted-off g w r L i t, shifted_at g w r L e te, low e i (inside e xe) (inside i xi)))

      bwd : smallest g.m w (both X (touches g r)) i ≡ true → smallest g.m (shifted g w r L) X i ≡ true
      bwd s =
          let (xi, ti) = both-in X (touches g r) i (smallest-in g.m w (both X (touches g r)) i s) in
          in-smallest g.m (shifted g w r L) X i xi (λ k l u xk. go xi ti k l u xk (touches g r k) refl)
        where
          go : X i ≡ true → touches g r i ≡ true → (k : ℕ) → 1 ≤ k → k ≤ g.m → X k ≡ true → (b : Bool) → touches g r k ≡ b → shifted g w r L i ≤ℤ shifted g w r L k
          go xi ti k l u xk true t = omega (arith, integers, smallest-least g.m w (both X (touches g r)) i k s l u (in_both X (touches g r) k xk t), shifted_at g w r L i ti, shifted_at g w r L k t, plus (w i) L, plus (w k) L)
          go xi ti k l u xk false t = omega (arith, integers, low i k (inside i xi) (inside k xk), shifted_at g w r L i ti, shifted-off g w r L k t)

  -- where X has none, they are the lightest of X
  smallest-off : (X : ℕ → Bool) → ((i : ℕ) → X i ≡ true → touches g r i ≡ false) → (i : ℕ) → smallest g.m (shifted g w r L) X i ≡ smallest g.m w X i
  smallest-off X off i = same_truth _ _ (λ s. let xi = smallest-in g.m (shifted g w r L) X i s in in-smallest g.m w X i xi (λ k l u xk. omega (arith, integers, smallest-least g.m (shifted g w r L) X i k s l u xk, shifted-off g w r L i (off i xi), shifted-off g w r L k (off k xk)))) (λ s. let xi = smallest-in g.m w X i s in in-smallest g.m (shifted g w r L) X i xi (λ k l u xk. omega (arith, integers, smallest-least g.m w X i k s l u xk, shifted-off g w r L i (off i xi), shifted-off g w r L k (off k xk))))

  -- the preferred row is the cheapest under the shifted prices
  pub preferred-cheapest : (X : ℕ → Bool) → Inside g X → preferred g w r X ≡ cheapest g (shifted g w r L) X
  unfolding preferred first_of cheapest
  preferred-cheapest X inside = go (cheapest g w (both X (touches g r))) refl
    where
      go : (o : ℕ) → cheapest g w (both X (touches g r)) ≡ o → first_of o (cheapest g w X) ≡ cheapest g (shifted g w r L) X
      go zero q = sym (uppermost-ext g.m (smallest g.m (shifted g w r L) X) (smallest g.m w X) (λ i l u. smallest-off X (λ k xk. refuted _ (λ t. clash (in_both X (touches g r) k xk t) (cheapest-none g ok w (both X (touches g r)) q k (inside k xk)))) i))
      go (suc j) q =
          let (x, t) = both-in X (touches g r) (suc j) (cheapest-some g ok w (both X (touches g r)) j q).0 in
          sym q ∙ sym (uppermost-ext g.m (smallest g.m (shifted g w r L) X) (smallest g.m w (both X (touches g r))) (λ i l u. smallest-at X inside (suc j) x t i))

  -- so the start is the builder's tree under the shifted prices
  fragment-built : (k : ℕ) → fragment g w r k ≡ builder.fragment g (shifted g w r L) k
  unfolding fragment first next builder.fragment builder.first builder.next
  fragment-built zero = ap (choose g nothing) (preferred-cheapest g.rows (λ i t. t))
  fragment-built (suc k) = go (builder.fragment g (shifted g w r L) k) (fragment-built k)
    where
      go : (o : Option Fragment) → fragment g w r k ≡ o → next g w r (fragment g w r k) ≡ builder.next g (shifted g w r L) o
      go none q = rw q
      go (some f) q = rw q (ap (choose g f) (preferred-cheapest (both g.rows (crosses g f.vertices)) (λ i t. (both-in g.rows (crosses g f.vertices) i t).0)))

  pub start_of-built : (n : ℕ) → start_of n g w r ≡ builder.tree_of n g (shifted g w r L)
  unfolding start_of builder.tree_of
  start_of-built zero = refl
  start_of-built (suc zero) = refl
  start_of-built (suc (suc k)) = fragment-built k

  pub start-built : start g w r ≡ builder.tree g (shifted g w r L)
  unfolding start builder.tree
  start-built = start_of-built g.n

  -- a tree that is good under the shifted prices is good where each row at r weighs minus one and the others nothing
  pub low-good : (S : ℕ → Bool) → SpanningTree g S → Good g (shifted g w r L) S → Good g (shifted g (λ i. pos 0) r (negsuc 0)) S
  unfolding up down
  low-good S tree good f rf out e path = go (touches g r e) (touches g r f) refl refl
    where
      free : ℕ → ℤ
      free i = pos 0

      go : (x y : Bool) → touches g r e ≡ x → touches g r f ≡ y → shifted g (λ i. pos 0) r (negsuc 0) e ≤ℤ shifted g (λ i. pos 0) r (negsuc 0) f
      go true true te tf = omega (arith, integers, shifted_at g free r (negsuc 0) e te, shifted_at g free r (negsuc 0) f tf)
      go true false te tf = omega (arith, integers, shifted_at g free r (negsuc 0) e te, shifted-off g free r (negsuc 0) f tf)
      go false true te tf = absurd (omega (arith, integers, good f rf out e path, shifted-off g w r L e te, shifted_at g w r L f tf, low f e rf (tree.inside e (path_inside g ok S tree (g.a f) (g.b f) e path))))
      go false false te tf = omega (arith, integers, shifted-off g free r (negsuc 0) e te, shifted-off g free r (negsuc 0) f tf)
