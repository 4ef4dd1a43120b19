-- Columns of numbers that are written: from the front, and at the rows of a slice, the uppermost first. Assumes nothing.
use Prim.Native.Nat.{ℕ, zero, suc, ◌+◌, ◌-◌, ◌≤◌}
use lib.IntN.{ℤ}
use lib.ListN.{length, set, length-set}
use lib.Seq.{ext_get_or, get_or-set_same, get_or-set_other}
use mathlib.Core.Bool.{Bool, true, false, cond}
use mathlib.Core.List.{List}
use mathlib.Core.Logic.{◌≢◌, by_cases}
use mathlib.Core.Path.{◌≡◌, refl, sym, ◌∙◌, ap}
use native.Mathlib.Decide.{ℕ_discrete, dec_le}
use native.Mathlib.Omega.{arith}
use Rattle.detour_spec.proofs.Numbers.{numbers_of-length, number_in, number-outside}
use Rattle.detour_spec.specs.Detours.{number_at, numbers_of}
use Rattle.slice.proofs.Stores.{Filled, filled-all}
use Rattle.rowset.proofs.Laws.{take_out-other, take_out-in}
use Rattle.rowset.specs.Sets.{take_out}
use Rattle.rowset.specs.Bytes.{in_row}
use Rattle.rowset.specs.Integers.{signed}
use Rattle.detour.specs.Steps.Machine.{dearest_in, replaced_in, beside_in, Put}

-- a column is the one whose numbers it has
pub numbers-ext : (l : List ℕ) (m : ℕ) (f : ℕ → ℕ) → length l ≡ m → ((i : ℕ) → 1 ≤ i → i ≤ m → number_at l i ≡ f i) → l ≡ numbers_of m f
unfolding number_at
numbers-ext l m f e h = ext_get_or 0 l (numbers_of m f) (e ∙ sym (numbers_of-length m f)) (λ k u. h (suc k) (omega arith) (omega arith) ∙ sym (number_in m f (suc k) (omega arith) (omega arith)))

-- a column that is filled from the front
pub filled-numbers : {m : ℕ} (f : ℕ → ℕ) {l : List ℕ} {b : ℕ} → Filled m 0 (λ k x. x ≡ f (k + 1)) l b → m ≤ b → l ≡ numbers_of m f
unfolding number_at
filled-numbers {m} f {l} h e = numbers-ext l m f h.full (λ i. at i)
  where
    at : (i : ℕ) → 1 ≤ i → i ≤ m → number_at l i ≡ f i
    at zero low high = absurd (omega arith)
    at (suc k) low high = filled-all h e k (omega arith) ∙ ap f (omega arith)

-- a number put at row k
pub number-set-same : (l : List ℕ) (k x : ℕ) → 1 ≤ k → k ≤ length l → number_at (set l (k - 1) x) k ≡ x
unfolding number_at
number-set-same l zero x l₁ u = absurd (omega arith)
number-set-same l (suc j) x l₁ u = let e : suc j - 1 ≡ j = omega arith in rw e (get_or-set_same l j x 0 (omega arith))

pub number-set-other : (l : List ℕ) (k i x : ℕ) → 1 ≤ k → i ≢ k → number_at (set l (k - 1) x) i ≡ number_at l i
unfolding number_at
number-set-other l zero i x l₁ n = absurd (omega arith)
number-set-other l (suc j) zero x l₁ n = refl
number-set-other l (suc j) (suc i) x l₁ n = let e : suc j - 1 ≡ j = omega arith in rw e (get_or-set_other l j i x 0 (λ z. n (ap suc z)))

-- on the way: of the rows H the rows X are left
pub record Putting (H X : ℕ → Bool) (x : ℕ) (old l : List ℕ) : Type 0 where
  pub full : length l ≡ length old
  pub left : (i : ℕ) → X i ≡ true → H i ≡ true
  pub done : (i : ℕ) → X i ≡ false → number_at l i ≡ cond (H i) x (number_at old i)
  pub rest : (i : ℕ) → X i ≡ true → number_at l i ≡ number_at old i

module _ (H : ℕ → Bool) (x : ℕ) (old : List ℕ) where
  pub putting-none : Putting H H x old old
  putting-none = record { full = refl; left = λ i h. h; done = λ i h. rw h; rest = λ i h. refl }

  pub putting-more : (X : ℕ → Bool) (l : List ℕ) (k : ℕ) → Putting H X x old l → 1 ≤ k → k ≤ length old → X k ≡ true → Putting H (take_out X k) x old (set l (k - 1) x)
  putting-more X l k p low high on =
      record {
        full = length-set l (k - 1) x ∙ p.full;
        left = λ i h. p.left i (take_out-in X k i h).0;
        done = λ i h. by_cases (ℕ_discrete i k)
            (λ z. rw (z, p.left k on) (number-set-same l k x low (omega (arith, p.full))))
            (λ z. number-set-other l k i x low z ∙ p.done i (sym (take_out-other X k i z) ∙ h));
        rest = λ i h. let (e, n) = take_out-in X k i h in number-set-other l k i x low n ∙ p.rest i e;
      }

  pub putting-all : (X : ℕ → Bool) (l : List ℕ) → Putting H X x old l → ((i : ℕ) → X i ≡ false) → Put H x old l
  putting-all X l p none = record { full = p.full; numbers = λ i. p.done i (none i) }

-- where a row is not one of U, the column of dearest rows has 0
pub dearest-none : (w : ℕ → ℤ) (own left right : List ℕ) (U : ℕ → Bool) (m i : ℕ) → U i ≡ false → number_at (numbers_of m (dearest_in w own left right U)) i ≡ 0
unfolding number_at dearest_in
dearest-none w own left right U m zero h = refl
dearest-none w own left right U m (suc j) h =
    by_cases (dec_le (suc j) m)
    (λ u. number_in m (dearest_in w own left right U) (suc j) (omega arith) u ∙ rw h)
    (λ u. number-outside (numbers_of m (dearest_in w own left right U)) (suc j) (omega (arith, numbers_of-length m (dearest_in w own left right U))))

-- the dearest rows, and then the replacements at the marked rows
pub both-written : (weight own left right : List ℕ) (U M : ℕ → Bool) (w : ℕ → ℤ) (l l₁ l₂ : List ℕ) → w ≡ (λ k. signed (in_row 4 weight k)) → l₁ ≡ numbers_of (length l) (dearest_in w own left right U)
    → l₂ ≡ numbers_of (length l₁) (λ i. cond (M i) (replaced_in w own left right U i) (number_at l₁ i)) → l₂ ≡ numbers_of (length l) (beside_in weight own left right U M)
unfolding beside_in
both-written weight own left right U M w l l₁ l₂ same first second =
    numbers-ext l₂ (length l) (beside_in weight own left right U M) (ap length second ∙ numbers_of-length (length l₁) _ ∙ short)
    (λ i low high.
    ap (λ (x : List ℕ). number_at x i) second ∙ number_in (length l₁) _ i low (omega (arith, short)) ∙ ap (λ (x : ℕ). cond (M i) (replaced_in w own left right U i) x) (dear i low high)
    ∙ ap (λ (f : ℕ → ℤ). cond (M i) (replaced_in f own left right U i) (dearest_in f own left right U i)) same)
  where
    short : length l₁ ≡ length l
    short = ap length first ∙ numbers_of-length (length l) (dearest_in w own left right U)

    dear : (i : ℕ) → 1 ≤ i → i ≤ length l → number_at l₁ i ≡ dearest_in w own left right U i
    dear i low high = ap (λ (x : List ℕ). number_at x i) first ∙ number_in (length l) (dearest_in w own left right U) i low high
