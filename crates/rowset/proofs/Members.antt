-- Laws of membership: a position put in, induction over the positions of a set, what belongs to both of two sets, to either or to one without the other, and how many belong.
-- Assumes nothing.
use Prim.Native.Nat.{ℕ, suc, ◌≤◌, ◌<◌}
use borrow.Author.Tests.{not-true}
use mathlib.Core.Bool.{Bool, true, false, and-eq-true_iff, or-true}
use mathlib.Core.Logic.{◌⊎◌, inl, inr, ⊎_elim}
use mathlib.Core.Path.{◌≡◌, refl, sym, ◌∙◌, ap, subst, fun_ext}
use native.Mathlib.Nat.{eq-or-lt_of_le}
use native.Mathlib.Omega.{arith}
use Rattle.rowset.proofs.Laws.{clash, refuted, upwards, put_same, put_keeps, put-cases, take_out-other, up_to-in, in-up_to, both-inside, count-take_out, count-monotone}
use Rattle.rowset.specs.Sets.{empty, up_to, both, without, put, take_out, count, either}

-- what holds of each position of p, and of k, holds of each position of p with k put in
pub put_all : (P : ℕ → Type 0) (p : ℕ → Bool) (k : ℕ) → ((i : ℕ) → p i ≡ true → P i) → P k → (i : ℕ) → put p k i ≡ true → P i
put_all P p k h hk i e = ⊎_elim (h i) (λ q. subst P (sym q) hk) (put-cases p k i e)

-- two truth values that imply each other are equal
pub same_truth : (x y : Bool) → (x ≡ true → y ≡ true) → (y ≡ true → x ≡ true) → x ≡ y
same_truth true y h k = sym (h refl)
same_truth false true h k = k refl
same_truth false false h k = refl

-- what belongs to both sets
pub both-in : (p q : ℕ → Bool) (i : ℕ) → both p q i ≡ true → (p i ≡ true) × (q i ≡ true)
unfolding both
both-in p q i e = (and-eq-true_iff (p i) (q i)).0 e

pub in_both : (p q : ℕ → Bool) (i : ℕ) → p i ≡ true → q i ≡ true → both p q i ≡ true
unfolding both
in_both p q i e f = rw (e, f)

-- what belongs to either of two sets
pub either-in : (p q : ℕ → Bool) (i : ℕ) → either p q i ≡ true → (p i ≡ true) ⊎ (q i ≡ true)
unfolding either
either-in p q i e = go (p i) refl
  where
    go : (b : Bool) → p i ≡ b → (p i ≡ true) ⊎ (q i ≡ true)
    go true f = inl f
    go false f = inr (rw f at e)

pub in_either : (p q : ℕ → Bool) (i : ℕ) → (p i ≡ true) ⊎ (q i ≡ true) → either p q i ≡ true
unfolding either
in_either p q i (inl e) = rw e
in_either p q i (inr e) = rw e (or-true (p i))

-- what belongs to the first set and not to the second
pub without_in : (p q : ℕ → Bool) (i : ℕ) → without p q i ≡ true → (p i ≡ true) × (q i ≡ false)
unfolding without
without_in p q i e =
    let (h, k) = (and-eq-true_iff (p i) _).0 e in
    (h, not-true (q i) k)

pub in_without : (p q : ℕ → Bool) (i : ℕ) → p i ≡ true → q i ≡ false → without p q i ≡ true
unfolding without
in_without p q i e f = rw (e, f)

-- a subset that lacks a position has fewer
pub count-fewer : (m k : ℕ) (p q : ℕ → Bool) → 1 ≤ k → k ≤ m → q k ≡ true → p k ≡ false → ((i : ℕ) → p i ≡ true → q i ≡ true) → count m p < count m q
count-fewer m k p q l u on off h =
    omega (
      arith,
      count-take_out m k q l u on,
      count-monotone m p (take_out q k) (λ i e. take_out-other q k i (λ s. clash e (ap p s ∙ off)) ∙ h i e),
    )

-- what holds of the empty set, and with a position put in whenever it holds without, holds of a set of positions of 1 to m
pub put-induction : (m : ℕ) (p : ℕ → Bool) (P : (ℕ → Bool) → Type 0) → ((i : ℕ) → p i ≡ true → (1 ≤ i) × (i ≤ m)) → P empty → ((q : ℕ → Bool) (k : ℕ) → p k ≡ true → q k ≡ false → P q → P (put q k)) → P p
unfolding empty
put-induction m p P inside base step =
    subst P (both-inside m p inside) (upwards (λ n. P (both (up_to n) p)) 0 m (omega arith) (subst P (sym none) base) (λ n l u x. more n x (p (suc n)) refl))
  where
    none : both (up_to 0) p ≡ empty
    none = fun_ext λ i. refuted _ (λ e. let (l, u) = up_to-in 0 i (both-in (up_to 0) p i e).0 in omega arith)

    lacks : (n : ℕ) → both (up_to n) p (suc n) ≡ false
    lacks n = refuted _ (λ e. let (l, u) = up_to-in n (suc n) (both-in (up_to n) p (suc n) e).0 in omega arith)

    wider : (n i : ℕ) → both (up_to n) p i ≡ true → both (up_to (suc n)) p i ≡ true
    wider n i e =
        let (t, f) = both-in (up_to n) p i e in
        let (l, u) = up_to-in n i t in
        in_both (up_to (suc n)) p i (in-up_to (suc n) i l (omega arith)) f

    -- of 1 to n + 1 the last is new, or the position was there before
    last : (n i : ℕ) → both (up_to (suc n)) p i ≡ true → (p i ≡ true) × ((both (up_to n) p i ≡ true) ⊎ (i ≡ suc n))
    last n i e =
        let (t, f) = both-in (up_to (suc n)) p i e in
        let (l, u) = up_to-in (suc n) i t in
        (f, ⊎_elim inr (λ g. inl (in_both (up_to n) p i (in-up_to n i l (omega arith)) f)) (eq-or-lt_of_le u))

    more : (n : ℕ) → P (both (up_to n) p) → (b : Bool) → p (suc n) ≡ b → P (both (up_to (suc n)) p)
    more n x true e =
        subst P (fun_ext λ i. same_truth _ _ (put_all (λ j. both (up_to (suc n)) p j ≡ true) (both (up_to n) p) (suc n) (wider n) (in_both (up_to (suc n)) p (suc n) (in-up_to (suc n) (suc n) (omega arith) (omega arith)) e) i) (λ h. ⊎_elim (put_keeps _ (suc n) i) (λ q. rw q (put_same (both (up_to n) p) (suc n))) (last n i h).1))
        (step (both (up_to n) p) (suc n) e (lacks n) x)
    more n x false e =
        subst P (fun_ext λ i. same_truth _ _ (wider n i) (λ h. ⊎_elim (λ t. t) (λ q. clash (last n i h).0 (ap p q ∙ e)) (last n i h).1)) x
