-- What is printed in decimal reads back. Assumes nothing.
use Prim.Native.Nat.{ℕ, zero, suc, ◌+◌, ◌*◌, ◌-◌, ◌/◌, ◌%◌, ◌≤◌, ◌<◌}
use borrow.Author.Tests.{ltb-true, ltb-false, le-leb, ne_eqb}
use lib.Dec.{ltb}
use lib.IntN.{ℤ, pos, negsuc}
use mathlib.Core.Bool.{Bool, true, false, ◌&&◌, false≢true}
use mathlib.Core.List.{List, [], ◌∷◌, ◌++◌}
use mathlib.Core.Option.{some}
use mathlib.Core.Path.{◌≡◌, refl, ◌∙◌}
use native.Mathlib.Omega.{arith}
use Rattle.decimal.proofs.Laws.{natural-digit, natural-more}
use Rattle.decimal.specs.Decimal.{natural, integer}
use Rattle.decimal.specs.Reading.{read_natural, read_integer, ReadsBack}
use Rattle.stp_words.specs.Bytes.{within}
use Rattle.stp_words.specs.Numbers.{all_digits, is_empty, decimal, opens_below, below}

-- a digit is a byte of 48 to 57
digit-within : (d : ℕ) → d < 10 → within 48 57 (48 + d) ≡ true
unfolding within
digit-within d h = rw (le-leb 48 (48 + d) (omega arith), le-leb (48 + d) 57 (omega arith))

-- digits after digits
pub digits_append : (a b : List ℕ) → all_digits a ≡ true → all_digits b ≡ true → all_digits (a ++ b) ≡ true
unfolding all_digits
digits_append [] b h k = k
digits_append (x ∷ a) b h k = go (λ e. digits_append a b e k) (within 48 57 x) h
  where
    go : (all_digits a ≡ true → all_digits (a ++ b) ≡ true) → (t : Bool) → (t && all_digits a) ≡ true → (t && all_digits (a ++ b)) ≡ true
    go f true e = f e
    go f false e = e

decimal-append : (a b : List ℕ) (v : ℕ) → decimal v (a ++ b) ≡ decimal (decimal v a) b
unfolding decimal
decimal-append [] b v = refl
decimal-append (x ∷ a) b v = decimal-append a b (10 * v + (x - 48))

-- what holds of numbers below ten, and of a number of ten or above where it holds of its tenth, holds of every number
tenths : (P : ℕ → Type 0) → ((n : ℕ) → n < 10 → P n) → ((n : ℕ) → 10 ≤ n → P (n / 10) → P n) → (n : ℕ) → P n
tenths P small large n = below n n (omega arith)
  where
    turn : (n : ℕ) → (10 ≤ n → P (n / 10)) → (t : Bool) → ltb n 10 ≡ t → P n
    turn n f true e = small n (ltb-true n 10 e)
    turn n f false e =
        let g : 10 ≤ n = ltb-false n 10 e in
        large n g (f g)

    below : (most n : ℕ) → n ≤ most → P n
    below zero n h = small n (omega arith)
    below (suc most) n h = turn n (λ g. below most (n / 10) (omega arith)) (ltb n 10) refl

one-digit : (n : ℕ) → all_digits ((48 + n % 10) ∷ []) ≡ true
unfolding all_digits
one-digit n = rw (digit-within (n % 10) (omega arith))

pub natural-digits : (n : ℕ) → all_digits (natural n) ≡ true
natural-digits =
    tenths (λ n. all_digits (natural n) ≡ true) (λ n h. rw (natural-digit n h) (one-digit n))
    (λ n h e. rw (natural-more n h) (digits_append (natural (n / 10)) ((48 + n % 10) ∷ []) e (one-digit n)))

first-digit : (n : ℕ) → n < 10 → decimal 0 ((48 + n % 10) ∷ []) ≡ n
unfolding decimal
first-digit n h = omega arith

next-digit : (n : ℕ) → decimal (n / 10) ((48 + n % 10) ∷ []) ≡ n
unfolding decimal
next-digit n = omega arith

natural-value : (n : ℕ) → decimal 0 (natural n) ≡ n
natural-value =
    tenths (λ n. decimal 0 (natural n) ≡ n) (λ n h. rw (natural-digit n h) (first-digit n h))
    (λ n h e. rw (natural-more n h) (decimal-append (natural (n / 10)) ((48 + n % 10) ∷ []) 0 ∙ rw e (next-digit n)))

empty-append : (a : List ℕ) (x : ℕ) → is_empty (a ++ (x ∷ [])) ≡ false
unfolding is_empty
empty-append [] x = refl
empty-append (y ∷ a) x = refl

pub natural-some : (n : ℕ) → is_empty (natural n) ≡ false
natural-some =
    tenths (λ n. is_empty (natural n) ≡ false) (λ n h. rw (natural-digit n h) (empty-append [] (48 + n % 10)))
    (λ n h e. rw (natural-more n h) (empty-append (natural (n / 10)) (48 + n % 10)))

-- digits do not open with -
digits_above : (l : List ℕ) → all_digits l ≡ true → opens_below l ≡ false
unfolding all_digits opens_below within
digits_above [] e = refl
digits_above (b ∷ t) e = ne_eqb b 45 (λ h. false≢true (rw h at e))

naturals : (n : ℕ) → read_natural (natural n) ≡ some n
unfolding read_natural
naturals n = rw (natural-some n, natural-digits n, natural-value n)

integers : (z : ℤ) → read_integer (integer z) ≡ some z
unfolding read_integer integer opens_below below
integers (pos n) = rw (digits_above (natural n) (natural-digits n), naturals n)
integers (negsuc n) = rw (naturals (suc n))

pub reads-back : ReadsBack
reads-back = record { naturals = naturals; integers = integers }
