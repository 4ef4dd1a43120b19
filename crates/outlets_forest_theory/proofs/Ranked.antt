-- Rows in one order, by weight and among equals by number. A forest grows the same whether rows are compared by weight, the uppermost first among equals, or by their ranks in that order;
-- so each row that is left out comes after every row on the path of the forest between its ends (forest-first).
-- Defines: Lightest (the uppermost of the lightest rows of a set), rank (how many rows come before a row). Assumes nothing.
use Prim.Native.Nat.{ℕ, zero, suc, ◌≤◌, ◌<◌}
use borrow.Author.Tests.{ltb-true, ltb-false, lt-ltb, le-ltb}
use lib.Dec.{ltb}
use lib.IntN.{ℤ, pos}
use lib.Signed.{◌≤ℤ◌, ◌<ℤ◌, lt_z}
use mathlib.Core.Bool.{Bool, true, false, not, ◌&&◌, ◌||◌}
use mathlib.Core.Logic.{◌⊎◌, inl, inr, ⊎_elim}
use mathlib.Core.Path.{◌≡◌, refl, sym, ◌∙◌, ap}
use native.Mathlib.Decide.{dec_lt}
use native.Mathlib.Omega.{arith}
use Rattle.districts_theory.proofs.Good.{good-is-least}
use Rattle.districts_theory.proofs.Growing.{grows-least}
use Rattle.districts_theory.specs.Forest.{Forest}
use Rattle.districts_theory.specs.Growing.{misses, next_row, with_row, grown, grown_forest}
use Rattle.graph_theory.specs.Builder.{Fragment, cheapest}
use Rattle.graph_theory.specs.Graph.{Graph, Sound, Inside, crosses}
use Rattle.graph_theory.specs.Tree.{on_path}
use Rattle.rowset.proofs.Integers.{integers, pos-parts, lt_z-true, lt_z-false, lt-lt_z, le-lt_z}
use Rattle.rowset.proofs.Laws.{clash, refuted, any_some, any_found, uppermost-some, uppermost-is, uppermost-zero}
use Rattle.rowset.proofs.Members.{count-fewer}
use Rattle.rowset.proofs.Searches.{smallest-in, smallest-least, in-smallest, smallest-exists}
use Rattle.rowset.specs.Searches.{smallest}
use Rattle.rowset.specs.Sets.{both, count, uppermost}

-- ── The uppermost of the lightest rows of a set ──

module _ (m : ℕ) (w : ℕ → ℤ) where
  pub record Lightest (X : ℕ → Bool) (y : ℕ) : Type 0 where
    pub inside : X y ≡ true
    pub high : y ≤ m
    pub least : (k : ℕ) → 1 ≤ k → k ≤ m → X k ≡ true → w y ≤ℤ w k
    pub first : (k : ℕ) → 1 ≤ k → k ≤ m → X k ≡ true → w k ≤ℤ w y → y ≤ k

  pub lightest-some : (X : ℕ → Bool) (j : ℕ) → uppermost m (smallest m w X) ≡ suc j → Lightest X (suc j)
  lightest-some X j e =
      let (t, u, above) = uppermost-some m j (smallest m w X) e in
      record {
        inside = smallest-in m w X (suc j) t;
        high = u;
        least = λ k l h x. smallest-least m w X (suc j) k t l h x;
        first = λ k l h x p. elim (dec_lt j k) [
          | yes q ↦ omega arith
          | no q ↦ clash (in-smallest m w X k x (λ i li hi xi. omega (arith, integers, p, smallest-least m w X (suc j) i t li hi xi))) (above k l (omega arith))
        ];
      }

  pub lightest-is : (X : ℕ → Bool) (j : ℕ) → Lightest X (suc j) → uppermost m (smallest m w X) ≡ suc j
  lightest-is X j h =
      uppermost-is m j (smallest m w X) h.high (in-smallest m w X (suc j) h.inside h.least)
      (λ i l u. refuted _ (λ t. omega (arith, h.high, h.first i l (omega (arith, h.high)) (smallest-in m w X i t) (smallest-least m w X i (suc j) t (omega arith) h.high h.inside))))

  -- where there is none, the set has no row
  pub lightest-none : (X : ℕ → Bool) → uppermost m (smallest m w X) ≡ 0 → (i : ℕ) → 1 ≤ i → i ≤ m → X i ≡ false
  lightest-none X e i l u = refuted _ (λ x. let (j, q) = any_found m (smallest m w X) (smallest-exists m w X (any_some m i X l u x)) in omega arith)

  pub none-lightest : (X : ℕ → Bool) → ((i : ℕ) → 1 ≤ i → i ≤ m → X i ≡ false) → uppermost m (smallest m w X) ≡ 0
  none-lightest X none = uppermost-zero m (smallest m w X) (λ i l u. refuted _ (λ t. clash (smallest-in m w X i t) (none i l u)))

-- ── The order ──

module _ (m : ℕ) (w : ℕ → ℤ) where
  -- row k comes before row i
  before : ℕ → ℕ → Bool
  before k i = lt_z (w k) (w i) || (not (lt_z (w i) (w k)) && ltb k i)

  before-in : (k i : ℕ) → before k i ≡ true → (w k <ℤ w i) ⊎ ((w k ≤ℤ w i) × (k < i))
  unfolding before
  before-in k i e = go (lt_z (w k) (w i)) (lt_z (w i) (w k)) (ltb k i) refl refl refl e
    where
      go : (a b c : Bool) → lt_z (w k) (w i) ≡ a → lt_z (w i) (w k) ≡ b → ltb k i ≡ c → (a || (not b && c)) ≡ true → (w k <ℤ w i) ⊎ ((w k ≤ℤ w i) × (k < i))
      go true b c p q s t = inl (lt_z-true (w k) (w i) p)
      go false false true p q s t = inr (lt_z-false (w i) (w k) q, ltb-true k i s)
      go false false false p q s t = clash t refl
      go false true c p q s t = clash t refl

  lighter-before : (k i : ℕ) → w k <ℤ w i → before k i ≡ true
  unfolding before
  lighter-before k i l = rw (lt-lt_z (w k) (w i) l)

  above_before : (k i : ℕ) → w k ≤ℤ w i → k < i → before k i ≡ true
  unfolding before
  above_before k i l h = go (lt_z (w k) (w i))
    where
      go : (a : Bool) → (a || (not (lt_z (w i) (w k)) && ltb k i)) ≡ true
      go true = refl
      go false = rw (le-lt_z (w i) (w k) l, lt-ltb k i h)

  -- how many rows come before row i
  pub rank : ℕ → ℤ
  rank i = pos (count m (λ k. before k i))

  before-rank : (k i : ℕ) → 1 ≤ k → k ≤ m → before k i ≡ true → rank k <ℤ rank i
  unfolding rank
  before-rank k i l u e = omega (arith, integers, pos-parts (count m (λ j. before j k)), pos-parts (count m (λ j. before j i)), count-fewer m k (λ j. before j k) (λ j. before j i) l u e own through)
    where
      own : before k k ≡ false
      own = refuted _ (λ t. ⊎_elim (λ h. omega (arith, integers, h)) (λ h. omega (arith, h)) (before-in k k t))

      through : (j : ℕ) → before j k ≡ true → before j i ≡ true
      through j t = ⊎_elim
          (λ p. ⊎_elim (λ q. lighter-before j i (omega (arith, integers, p, q))) (λ q. lighter-before j i (omega (arith, integers, p, q))) (before-in k i e))
          (λ p. ⊎_elim (λ q. lighter-before j i (omega (arith, integers, p, q))) (λ q. above_before j i (omega (arith, integers, p, q)) (omega (arith, p, q))) (before-in k i e))
          (before-in j k t)

  -- a rank that is not greater: a weight that is not greater, and among equals a number that is not
  pub rank-in : (i k : ℕ) → 1 ≤ k → k ≤ m → rank i ≤ℤ rank k → (w i ≤ℤ w k) × (w k ≤ℤ w i → i ≤ k)
  rank-in i k l u e = (
    go (lt_z (w k) (w i)) refl,
    λ h. elim (dec_lt k i) [
      | yes q ↦ absurd (not-before (above_before k i h q))
      | no q ↦ omega arith
    ],
  )
    where
      not-before : before k i ≡ true → ⊥
      not-before t = omega (arith, integers, e, before-rank k i l u t)

      go : (b : Bool) → lt_z (w k) (w i) ≡ b → w i ≤ℤ w k
      go true q = absurd (not-before (lighter-before k i (lt_z-true (w k) (w i) q)))
      go false q = lt_z-false (w k) (w i) q

  pub in-rank : (i k : ℕ) → 1 ≤ i → i ≤ m → w i ≤ℤ w k → (w k ≤ℤ w i → i ≤ k) → rank i ≤ℤ rank k
  in-rank i k l u e first = elim (dec_lt i k) [
    | yes q ↦ omega (arith, integers, before-rank i k l u (above_before i k e q))
    | no q ↦ go (lt_z (w i) (w k)) refl q
  ]
    where
      go : (b : Bool) → lt_z (w i) (w k) ≡ b → (i < k → ⊥) → rank i ≤ℤ rank k
      go true p q = omega (arith, integers, before-rank i k l u (lighter-before i k (lt_z-true (w i) (w k) p)))
      go false p q =
          let same : i ≡ k = omega (arith, first (lt_z-false (w i) (w k) p)) in
          omega (arith, integers, ap rank same)

  -- the uppermost lightest row of a set is that of least rank
  pub lightest-ranked : (X : ℕ → Bool) → uppermost m (smallest m w X) ≡ uppermost m (smallest m rank X)
  lightest-ranked X = go (uppermost m (smallest m w X)) refl
    where
      go : (o : ℕ) → uppermost m (smallest m w X) ≡ o → uppermost m (smallest m w X) ≡ uppermost m (smallest m rank X)
      go zero e = e ∙ sym (none-lightest m rank X (lightest-none m w X e))
      go (suc j) e =
          let h = lightest-some m w X j e in
          e ∙ sym (lightest-is m rank X j (record {
            inside = h.inside;
            high = h.high;
            least = λ k l u x. in-rank (suc j) k (omega arith) h.high (h.least k l u x) (h.first k l u x);
            first = λ k l u x p. h.first k l u x (rank-in k (suc j) (omega arith) h.high p).0;
          }))

-- ── The forest ──

module _ (g : Graph) (w : ℕ → ℤ) (X : ℕ → Bool) where
  next-ranked : (Q : ℕ → Bool) → next_row g w X Q ≡ next_row g (rank g.m w) X Q
  unfolding next_row cheapest
  next-ranked Q = rw (lightest-ranked g.m w (both X (crosses g Q)), lightest-ranked g.m w (both X (misses g Q)))

  grown-ranked : (k : ℕ) → grown g w X k ≡ grown g (rank g.m w) X k
  unfolding grown
  grown-ranked zero = refl
  grown-ranked (suc k) =
      ap (λ (f : Fragment). with_row g f (next_row g w X f.vertices)) (grown-ranked k) ∙ ap (with_row g (grown g (rank g.m w) X k)) (next-ranked (grown g (rank g.m w) X k).vertices)

  forest-ranked : grown_forest g w X ≡ grown_forest g (rank g.m w) X
  unfolding grown_forest
  forest-ranked = ap (λ (f : Fragment). f.chosen) (grown-ranked g.n)

  module _ (ok : Sound g) (rows : Inside g X) where
    pub grown-forest : Forest g X (grown_forest g w X)
    grown-forest = (grows-least g ok w X rows).forest

    -- each row that is left out comes after every row on the path between its ends
    pub forest-first : (f e : ℕ) → X f ≡ true → grown_forest g w X f ≡ false → on_path g (grown_forest g w X) (g.a f) (g.b f) e ≡ true → (w e ≤ℤ w f) × (w f ≤ℤ w e → e ≤ f)
    forest-first f e x out path =
        let least = grows-least g ok (rank g.m w) X rows in
        let good = (good-is-least g ok (rank g.m w) X rows (grown_forest g (rank g.m w) X) least.forest).0 least in
        let (l, u) = ok.position f (rows f x) in
        rank-in g.m w e f l u (good f x (rw forest-ranked at out) e (rw forest-ranked at path))
