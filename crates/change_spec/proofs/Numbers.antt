-- The new positions of the rows in use are increasing, and are 1 to their count. Assumes nothing.
use Prim.Native.Nat.{ℕ, zero, suc, ◌<◌, ◌≤◌}
use borrow.Author.Tests.{eqb-true, eq-eqb}
use lib.Dec.{eqb}
use mathlib.Core.Bool.{Bool, true, false, ◌&&◌, and-eq-true_iff}
use mathlib.Core.Logic.{by_cases}
use mathlib.Core.Path.{◌≡◌, refl, ◌∙◌}
use native.Mathlib.Decide.{dec_le}
use native.Mathlib.Omega.{arith}
use Rattle.rowset.specs.Sets.{up_to, sum, count}
use Rattle.rowset.proofs.Laws.{upwards, in-up_to, any_some, any_found, uppermost-some}
use Rattle.change_spec.specs.Meaning.{old_row, NumbersInOrder}
use Rattle.change_spec.specs.Packing.{new_number}

module _ (X : ℕ → Bool) where
  -- one row more, by whether it belongs
  pub count-in : (i : ℕ) → X (suc i) ≡ true → count (suc i) X ≡ suc (count i X)
  unfolding count sum
  count-in i e = rw e (omega arith)

  pub count-out : (i : ℕ) → X (suc i) ≡ false → count (suc i) X ≡ count i X
  unfolding count sum
  count-out i e = rw e (omega arith)

  -- more rows, no fewer that belong
  pub count-up : (i j : ℕ) → i ≤ j → count i X ≤ count j X
  count-up i j h = upwards (λ k. count i X ≤ count k X) i j h (omega arith) (λ k l u e. go k (X (suc k)) refl e)
    where
      go : (k : ℕ) (b : Bool) → X (suc k) ≡ b → count i X ≤ count k X → count i X ≤ count (suc k) X
      go k true e l = omega (arith, count-in k e)
      go k false e l = omega (arith, count-out k e)

  pub number_in : (i : ℕ) → X i ≡ true → new_number X i ≡ count i X
  unfolding new_number
  number_in i e = rw e

  pub number-out : (i : ℕ) → X i ≡ false → new_number X i ≡ 0
  unfolding new_number
  number-out i e = rw e

  -- a later row has a greater count
  count_less : (i j : ℕ) → i < j → X j ≡ true → count i X < count j X
  count_less i zero l e = absurd (omega arith)
  count_less i (suc j) l e = omega (arith, count-in j e, count-up i j (omega arith))

  number-less : (i j : ℕ) → i < j → X i ≡ true → X j ≡ true → new_number X i < new_number X j
  number-less i j l e f = rw (number_in i e, number_in j f) (count_less i j l f)

  -- rows that belong and have the same number are the same
  one-row : (i j : ℕ) → X i ≡ true → X j ≡ true → new_number X i ≡ new_number X j → i ≡ j
  one-row i j e f h =
      by_cases (dec_le i j)
      (λ l. by_cases (dec_le j i) (λ g. omega arith) (λ g. absurd (omega (arith, g, number-less i j (omega (arith, g)) e f))))
      (λ l. absurd (omega (arith, l, number-less j i (omega (arith, l)) f e)))

  -- each of 1 to the count is the count up to a row that belongs
  reached : (m k : ℕ) → 1 ≤ k → k ≤ count m X → (i : ℕ) × (1 ≤ i) × (i ≤ m) × (X i ≡ true) × (new_number X i ≡ k)
  unfolding count sum
  reached zero k l u = absurd (omega arith)
  reached (suc m) k l u = by_cases (dec_le k (count m X)) (λ h. let (i, a, b, e, n) = reached m k l h in (i, a, omega arith, e, n)) (λ h. here h (X (suc m)) refl)
    where
      here : (k ≤ count m X → ⊥) → (b : Bool) → X (suc m) ≡ b → (i : ℕ) × (1 ≤ i) × (i ≤ suc m) × (X i ≡ true) × (new_number X i ≡ k)
      here h true e = (suc m, omega arith, omega arith, e, number_in (suc m) e ∙ omega (arith, h, count-in m e))
      here h false e = absurd (h (omega (arith, count-out m e)))

  module _ (m : ℕ) where
    inside : (i : ℕ) → 1 ≤ i → i ≤ m → X i ≡ true → (1 ≤ new_number X i) × (new_number X i ≤ count m X)
    inside zero l u e = absurd (omega arith)
    inside (suc i) l u e = rw (number_in (suc i) e) (omega (arith, count-in i e), count-up (suc i) m u)

    onto : (k : ℕ) → 1 ≤ k → k ≤ count m X → (up_to m (old_row m X k) ≡ true) × (X (old_row m X k) ≡ true) × (new_number X (old_row m X k) ≡ k)
    unfolding old_row
    onto k l u =
        let (i, a, b, e, n) = reached m k l u in
        let here : (X i && eqb (new_number X i) k) ≡ true = rw (e, eq-eqb (new_number X i) k n) in
        let (j, t) = any_found m (λ r. X r && eqb (new_number X r) k) (any_some m i (λ r. X r && eqb (new_number X r) k) a b here) in
        let (p, w, f) = uppermost-some m j (λ r. X r && eqb (new_number X r) k) t in
        let q = (and-eq-true_iff (X (suc j)) (eqb (new_number X (suc j)) k)).0 p in
        rw t (in-up_to m (suc j) (omega arith) w, q.0, eqb-true (new_number X (suc j)) k q.1)

    back : (i : ℕ) → 1 ≤ i → i ≤ m → X i ≡ true → old_row m X (new_number X i) ≡ i
    back i l u e =
        let h = inside i l u e in
        let o = onto (new_number X i) h.0 h.1 in
        one-row (old_row m X (new_number X i)) i o.1 e o.2

pub numbers-in-order : NumbersInOrder
numbers-in-order m X = record { inside = inside X m; outside = number-out X; increasing = number-less X; onto = onto X m; back = back X m }
