-- Prices with the same amount added to each row at r. A tree that is good under such prices is least among the trees with as many rows at r.
-- Defines: shifted (the prices with L added to each row at r), times (an integer taken k times).
-- Main statements: what the shift does to a weight (shift-total); a good tree under shifted prices is least among those with as many rows at r (shifted_least);
-- a tree that is good where only the rows at r have a price has the most, or the fewest, of them (most-rows, fewest-rows).
-- Assumes nothing.
use Prim.Native.Nat.{ℕ, zero, suc, ◌+◌, ◌≤◌}
use lib.IntN.{ℤ, pos, negsuc, ◌+ℤ◌, +ℤ_idl, +ℤ_idr}
use lib.Signed.{◌≤ℤ◌}
use mathlib.Core.Bool.{Bool, true, false, cond, ◌&&◌}
use mathlib.Core.Path.{◌≡◌, refl, ◌∙◌, ap}
use native.Mathlib.Numerals.{add-one}
use native.Mathlib.Nat.{add-zero}
use native.Mathlib.Omega.{arith}
use Rattle.outlets_theory.specs.Degree.{touches, rows_at}
use Rattle.graph_theory.proofs.Least.{good-least}
use Rattle.graph_theory.specs.Graph.{Graph, Sound}
use Rattle.graph_theory.specs.Least.{Good}
use Rattle.graph_theory.specs.Tree.{SpanningTree}
use Rattle.rowset.proofs.Integers.{integers, up, down, plus}
use Rattle.rowset.specs.Integers.{total}
use Rattle.rowset.specs.Sets.{both, sum, count}

-- the prices with L added to each row at r
unfoldable pub shifted : Graph → (ℕ → ℤ) → ℕ → ℤ → ℕ → ℤ
shifted g w r L i = cond (touches g r i) (w i +ℤ L) (w i)

pub shifted_at : (g : Graph) (w : ℕ → ℤ) (r : ℕ) (L : ℤ) (i : ℕ) → touches g r i ≡ true → shifted g w r L i ≡ w i +ℤ L
unfolding shifted
shifted_at g w r L i e = rw e

pub shifted-off : (g : Graph) (w : ℕ → ℤ) (r : ℕ) (L : ℤ) (i : ℕ) → touches g r i ≡ false → shifted g w r L i ≡ w i
unfolding shifted
shifted-off g w r L i e = rw e

-- L taken k times
unfoldable pub times : ℕ → ℤ → ℤ
times zero L = pos 0
times (suc k) L = times k L +ℤ L

-- sums, regrouped
regroup : (a b c x : ℤ) → a ≡ b +ℤ c → a +ℤ x ≡ (b +ℤ x) +ℤ c
regroup a b c x e = omega (arith, integers, plus a x, plus (b +ℤ x) c, plus b x, plus b c)

regroup-both : (a b c x y : ℤ) → a ≡ b +ℤ c → a +ℤ (x +ℤ y) ≡ (b +ℤ x) +ℤ (c +ℤ y)
regroup-both a b c x y e = omega (arith, integers, plus a (x +ℤ y), plus x y, plus (b +ℤ x) (c +ℤ y), plus b x, plus c y, plus b c)

-- what the shift does to a weight over 1 to m
shift-total : (g : Graph) (w : ℕ → ℤ) (r : ℕ) (L : ℤ) (S : ℕ → Bool) (m : ℕ) → total m (shifted g w r L) S ≡ total m w S +ℤ times (count m (both S (touches g r))) L
unfolding total count sum both times shifted
shift-total g w r L S zero = refl
shift-total g w r L S (suc m) = go (S (suc m)) (touches g r (suc m)) (shift-total g w r L S m)
  where
    go : (b t : Bool) → total m (shifted g w r L) S ≡ total m w S +ℤ times (count m (both S (touches g r))) L
        → total m (shifted g w r L) S +ℤ cond b (cond t (w (suc m) +ℤ L) (w (suc m))) (pos 0) ≡ (total m w S +ℤ cond b (w (suc m)) (pos 0)) +ℤ times (count m (both S (touches g r)) + cond (b && t) 1 0) L
    go true true h = rw add-one (regroup-both _ (total m w S) _ (w (suc m)) L h)
    go true false h = rw add-zero (regroup _ (total m w S) _ (w (suc m)) h)
    go false t h = rw (add-zero, +ℤ_idr (total m (shifted g w r L) S), +ℤ_idr (total m w S)) h

-- one taken k times is k, and minus one taken k times is less the more often it is taken
times-one : (k : ℕ) → up (times k (pos 1)) ≡ k + down (times k (pos 1))
unfolding times up down
times-one zero = refl
times-one (suc k) = omega (arith, times-one k, plus (times k (pos 1)) (pos 1))

times-minus-one : (k : ℕ) → down (times k (negsuc 0)) ≡ k + up (times k (negsuc 0))
unfolding times up down
times-minus-one zero = refl
times-minus-one (suc k) = omega (arith, times-minus-one k, plus (times k (negsuc 0)) (negsuc 0))

-- where no row has a price, no set has a weight
total-free : (m : ℕ) (S : ℕ → Bool) → total m (λ i. pos 0) S ≡ pos 0
unfolding total
total-free zero S = refl
total-free (suc m) S = rw (total-free m S) (go (S (suc m)))
  where
    go : (b : Bool) → pos 0 +ℤ cond b (pos 0) (pos 0) ≡ pos 0
    go true = refl
    go false = refl

module _ (g : Graph) (ok : Sound g) (r : ℕ) (S : ℕ → Bool) (tree : SpanningTree g S) where
  -- a tree that is good under shifted prices is least among the trees with as many rows at r
  pub shifted_least : (w : ℕ → ℤ) (L : ℤ) → Good g (shifted g w r L) S → (S' : ℕ → Bool) → SpanningTree g S' → rows_at g r S' ≡ rows_at g r S → total g.m w S ≤ℤ total g.m w S'
  unfolding rows_at
  shifted_least w L good S' t same =
      omega (
        arith,
        integers,
        (good-least g ok (shifted g w r L) S tree good).least S' t,
        shift-total g w r L S g.m,
        shift-total g w r L S' g.m,
        ap (λ (k : ℕ). times k L) same,
        plus (total g.m w S) (times (count g.m (both S (touches g r))) L),
        plus (total g.m w S') (times (count g.m (both S' (touches g r))) L),
      )

  -- where each row at r weighs L and the others nothing, a good tree has the least sum of them
  free-least : (L : ℤ) → Good g (shifted g (λ i. pos 0) r L) S → (S' : ℕ → Bool) → SpanningTree g S' → times (rows_at g r S) L ≤ℤ times (rows_at g r S') L
  unfolding rows_at
  free-least L good S' t = rw (sum_of S, sum_of S') at ((good-least g ok (shifted g (λ i. pos 0) r L) S tree good).least S' t)
    where
      sum_of : (Q : ℕ → Bool) → total g.m (shifted g (λ i. pos 0) r L) Q ≡ times (count g.m (both Q (touches g r))) L
      sum_of Q = shift-total g (λ i. pos 0) r L Q g.m ∙ rw (total-free g.m Q, +ℤ_idl)

  -- a tree that is good where each row at r weighs minus one has the most rows at r
  pub most-rows : Good g (shifted g (λ i. pos 0) r (negsuc 0)) S → (S' : ℕ → Bool) → SpanningTree g S' → rows_at g r S' ≤ rows_at g r S
  most-rows good S' t = omega (arith, integers, free-least (negsuc 0) good S' t, times-minus-one (rows_at g r S), times-minus-one (rows_at g r S'))

  -- a tree that is good where each row at r weighs one has the fewest rows at r
  pub fewest-rows : Good g (shifted g (λ i. pos 0) r (pos 1)) S → (S' : ℕ → Bool) → SpanningTree g S' → rows_at g r S ≤ rows_at g r S'
  fewest-rows good S' t = omega (arith, integers, free-least (pos 1) good S' t, times-one (rows_at g r S), times-one (rows_at g r S'))
