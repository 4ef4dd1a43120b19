-- Laws of the four searches: which rows they give, that MIN looks only at the rows that are selected, and MIN going down the rows (smallest-next).
-- Assumes nothing.
use Prim.Native.Nat.{ℕ, zero, suc, ◌≤◌, ◌<◌}
use borrow.Author.Tests.{eqb-true, eq-eqb, ne_eqb}
use lib.Dec.{eqb}
use lib.IntN.{ℤ}
use lib.Signed.{le_z, lt_z, ◌≤ℤ◌, ◌<ℤ◌, ≤ℤ_refl}
use mathlib.Core.Bool.{Bool, true, false, ◌&&◌, and-eq-true_iff, cond, ◌||◌}
use mathlib.Core.Path.{◌≡◌, fun_ext, refl, sym, ◌∙◌, ap}
use native.Mathlib.Omega.{arith}
use Rattle.rowset.proofs.Integers.{integers, le_z-true, lt_z-true, lt_z-false, lt-lt_z, le-le_z, le-lt_z}
use Rattle.rowset.proofs.Laws.{any-cut, extreme, extreme-in, extreme-first, in-extreme, extreme-exists, clash, refuted, any_some, any_found, uppermost-some, uppermost-is, uppermost-zero}
use Rattle.rowset.specs.Searches.{equal_to, greater_than, same_as, smallest, largest, SearchesInWords}
use Rattle.rowset.specs.Sets.{any, uppermost}
use mathlib.Core.Logic.{⊎_elim}
use native.Mathlib.Nat.{eq-or-lt_of_le}

-- ── MATCH ──

module _ (f : ℕ → ℕ) (w : ℕ) (X : ℕ → Bool) (i : ℕ) where
  equal_to-in : equal_to f w X i ≡ true → (X i ≡ true) × (f i ≡ w)
  unfolding equal_to
  equal_to-in e =
      let h = (and-eq-true_iff (X i) (eqb (f i) w)).0 e in
      (h.0, eqb-true (f i) w h.1)

  in-equal_to : X i ≡ true → f i ≡ w → equal_to f w X i ≡ true
  unfolding equal_to
  in-equal_to x e = rw (x, eq-eqb (f i) w e)

-- ── GREAT ──

module _ (f : ℕ → ℤ) (w : ℤ) (X : ℕ → Bool) (i : ℕ) where
  pub greater_than-in : greater_than f w X i ≡ true → (X i ≡ true) × (w <ℤ f i)
  unfolding greater_than
  greater_than-in e =
      let h = (and-eq-true_iff (X i) (lt_z w (f i))).0 e in
      (h.0, lt_z-true w (f i) h.1)

  pub in-greater_than : X i ≡ true → w <ℤ f i → greater_than f w X i ≡ true
  unfolding greater_than
  in-greater_than x l = rw (x, lt-lt_z w (f i) l)

  pub same_as-in : same_as f w X i ≡ true → (X i ≡ true) × (f i ≡ w)
  unfolding same_as
  same_as-in e =
      let (x, h) = (and-eq-true_iff (X i) _).0 e in
      let (low, high) = (and-eq-true_iff (le_z (f i) w) _).0 h in
      (x, omega (arith, integers, le_z-true (f i) w low, le_z-true w (f i) high))

  pub in-same_as : X i ≡ true → f i ≡ w → same_as f w X i ≡ true
  unfolding same_as
  in-same_as x e = rw (x, le-le_z (f i) w (omega (arith, integers, e)), le-le_z w (f i) (omega (arith, integers, e)))

-- ── MIN and MAX ──

-- which rows belong
module _ (m : ℕ) (f : ℕ → ℤ) (X : ℕ → Bool) where
  pub smallest-in : (i : ℕ) → smallest m f X i ≡ true → X i ≡ true
  unfolding smallest extreme
  smallest-in = extreme-in lt_z m f X

  pub smallest-least : (i k : ℕ) → smallest m f X i ≡ true → 1 ≤ k → k ≤ m → X k ≡ true → f i ≤ℤ f k
  unfolding smallest extreme
  smallest-least i k e l u h = lt_z-false (f k) (f i) (extreme-first lt_z m f X i k e l u h)

  pub in-smallest : (i : ℕ) → X i ≡ true → ((k : ℕ) → 1 ≤ k → k ≤ m → X k ≡ true → f i ≤ℤ f k) → smallest m f X i ≡ true
  unfolding smallest extreme
  in-smallest i e h = in-extreme lt_z m f X i e (λ k l u x. le-lt_z (f k) (f i) (h k l u x))

  pub smallest-exists : any m X ≡ true → any m (smallest m f X) ≡ true
  unfolding smallest extreme
  smallest-exists = extreme-exists lt_z m f X (λ a. le-lt_z a a (≤ℤ_refl a)) (λ a b d s t. lt-lt_z a d (omega (arith, integers, lt_z-true a b s, lt_z-true b d t)))

  pub largest-in : (i : ℕ) → largest m f X i ≡ true → X i ≡ true
  unfolding largest extreme
  largest-in = extreme-in (λ a b. lt_z b a) m f X

  pub largest-greatest : (i k : ℕ) → largest m f X i ≡ true → 1 ≤ k → k ≤ m → X k ≡ true → f k ≤ℤ f i
  unfolding largest extreme
  largest-greatest i k e l u h = lt_z-false (f i) (f k) (extreme-first (λ a b. lt_z b a) m f X i k e l u h)

  pub in-largest : (i : ℕ) → X i ≡ true → ((k : ℕ) → 1 ≤ k → k ≤ m → X k ≡ true → f k ≤ℤ f i) → largest m f X i ≡ true
  unfolding largest extreme
  in-largest i e h = in-extreme (λ a b. lt_z b a) m f X i e (λ k l u x. le-lt_z (f i) (f k) (h k l u x))

  pub largest-exists : any m X ≡ true → any m (largest m f X) ≡ true
  unfolding largest extreme
  largest-exists = extreme-exists (λ a b. lt_z b a) m f X (λ a. le-lt_z a a (≤ℤ_refl a)) (λ a b d s t. lt-lt_z d a (omega (arith, integers, lt_z-true b a s, lt_z-true d b t)))

-- where no row above m is selected, rows above m may be left out of MIN or taken in
pub smallest-cut : (k m : ℕ) (f : ℕ → ℤ) (X : ℕ → Bool) → m ≤ k → ((i : ℕ) → m < i → X i ≡ false) → smallest k f X ≡ smallest m f X
unfolding smallest
smallest-cut k m f X l h = fun_ext (λ i. rw (any-cut k m (λ j. X j && lt_z (f j) (f i)) l (λ j g. rw (h j g))))

-- MIN going down the rows, one row at a time
module _ (k : ℕ) (f : ℕ → ℤ) (X : ℕ → Bool) where
  -- a row of 1 to k that is smallest of 1 to k + 1 is smallest of 1 to k
  smallest-fewer : (i : ℕ) → smallest (suc k) f X i ≡ true → smallest k f X i ≡ true
  smallest-fewer i e = in-smallest k f X i (smallest-in (suc k) f X i e) (λ j l u. smallest-least (suc k) f X i j e l (omega arith))

  -- where row k + 1 is not smaller, the row of 1 to k stays
  smallest-stays : (j : ℕ) → uppermost k (smallest k f X) ≡ suc j → (X (suc k) ≡ true → f (suc j) ≤ℤ f (suc k)) → uppermost (suc k) (smallest (suc k) f X) ≡ suc j
  smallest-stays j q h =
      let (s, u, first) = uppermost-some k j (smallest k f X) q in
      uppermost-is (suc k) j (smallest (suc k) f X) (omega arith)
      (in-smallest (suc k) f X (suc j) (smallest-in k f X (suc j) s) (λ i l v x. ⊎_elim (λ e. rw e (h (sym (ap X e) ∙ x))) (λ g. smallest-least k f X (suc j) i s l (omega arith) x) (eq-or-lt_of_le v)))
      (λ i l v. refuted _ (λ t. clash (smallest-fewer i t) (first i l v)))

  -- where row k + 1 is selected and no row of 1 to k is as small, it takes its place
  smallest-new : X (suc k) ≡ true → ((i : ℕ) → 1 ≤ i → i ≤ k → X i ≡ true → f (suc k) <ℤ f i) → uppermost (suc k) (smallest (suc k) f X) ≡ suc k
  smallest-new x less = uppermost-is (suc k) k (smallest (suc k) f X) (omega arith)
      (in-smallest (suc k) f X (suc k) x (λ i l v h. ⊎_elim (λ e. rw e (≤ℤ_refl (f (suc k)))) (λ g. omega (arith, integers, less i l (omega arith) h)) (eq-or-lt_of_le v)))
      (λ i l v. refuted _ (λ t. absurd (omega (arith, integers, less i l v (smallest-in (suc k) f X i t), smallest-least (suc k) f X i (suc k) t (omega arith) (omega arith) x))))

  -- the uppermost of the smallest rows of 1 to k + 1: row k + 1 where it is selected and is smaller than that of 1 to k, or is the first selected; else that of 1 to k
  pub smallest-next : uppermost (suc k) (smallest (suc k) f X) ≡ cond (X (suc k) && (eqb (uppermost k (smallest k f X)) 0 || lt_z (f (suc k)) (f (uppermost k (smallest k f X))))) (suc k) (uppermost k (smallest k f X))
  smallest-next = go (X (suc k)) (uppermost k (smallest k f X)) refl refl
    where
      none : uppermost k (smallest k f X) ≡ 0 → (i : ℕ) → 1 ≤ i → i ≤ k → X i ≡ true → ⊥
      none q i l u x =
          let (j, s) = any_found k (smallest k f X) (smallest-exists k f X (any_some k i X l u x)) in
          omega arith

      go : (x : Bool) (b : ℕ) → X (suc k) ≡ x → uppermost k (smallest k f X) ≡ b → uppermost (suc k) (smallest (suc k) f X) ≡ cond (x && (eqb b 0 || lt_z (f (suc k)) (f b))) (suc k) b
      go false zero x q = uppermost-zero (suc k) (smallest (suc k) f X) (λ i l u. refuted _ (λ t. ⊎_elim (λ e. clash (smallest-in (suc k) f X i t) (ap X e ∙ x)) (λ g. none q i l (omega arith) (smallest-in (suc k) f X i t)) (eq-or-lt_of_le u)))
      go false (suc j) x q = smallest-stays j q (λ t. clash t x)
      go true zero x q = smallest-new x (λ i l u h. absurd (none q i l u h))
      go true (suc j) x q = rw (ne_eqb (suc j) 0 (omega arith)) (compare (lt_z (f (suc k)) (f (suc j))) refl)
        where
          compare : (t : Bool) → lt_z (f (suc k)) (f (suc j)) ≡ t → uppermost (suc k) (smallest (suc k) f X) ≡ cond t (suc k) (suc j)
          compare true t =
              let s = (uppermost-some k j (smallest k f X) q).0 in
              smallest-new x (λ i l u h. omega (arith, integers, lt_z-true (f (suc k)) (f (suc j)) t, smallest-least k f X (suc j) i s l u h))
          compare false t = smallest-stays j q (λ _. lt_z-false (f (suc k)) (f (suc j)) t)

pub searches-in-words : SearchesInWords
searches-in-words m r f X i =
    record {
      of-match = λ w. (equal_to-in r w X i, λ h. in-equal_to r w X i h.0 h.1);
      of-great = λ w. (greater_than-in f w X i, λ h. in-greater_than f w X i h.0 h.1);
      of-same = λ w. (same_as-in f w X i, λ h. in-same_as f w X i h.0 h.1);
      of-min = (λ e. (smallest-in m f X i e, λ k. smallest-least m f X i k e), λ h. in-smallest m f X i h.0 h.1);
      of-max = (λ e. (largest-in m f X i e, λ k. largest-greatest m f X i k e), λ h. in-largest m f X i h.0 h.1);
    }
