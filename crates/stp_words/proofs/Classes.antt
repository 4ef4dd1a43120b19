-- Laws of the classes of bytes: which bytes a range has, the class and the upper case of a byte by its range, and what a byte of each class does to what stands before it.
-- Assumes nothing.
use Prim.Native.Nat.{ℕ, ◌-◌, ◌≤◌, ◌<◌}
use borrow.Author.Tests.{le-leb, lt-leb, ne_eqb}
use lib.Dec.{leb, eqb}
use mathlib.Core.Bool.{Bool, true, false, cond, ◌&&◌, ◌||◌, true≢false, false≢true}
use mathlib.Core.Logic.{◌⊎◌, inl, inr}
use mathlib.Core.Path.{◌≡◌, refl}
use native.Mathlib.Omega.{arith}
use Rattle.stp_words.specs.Bytes.{within, class_of, of_words, upper}
use Rattle.stp_words.specs.Spans.{first_after}
use Rattle.stp_words.specs.Text.{Before, at_start, in_gap, in_word, after, begins, is_first}
use Rattle.stp_words.specs.declared.Class.{Class}
use Rattle.stp_words.specs.declared.Class.TheVariants.{Digit, Letter, Blank, LineEnd, Other}

module _ (first last b : ℕ) where
  pub within_in : first ≤ b → b ≤ last → within first last b ≡ true
  unfolding within
  within_in l u = rw (le-leb first b l, le-leb b last u)

  pub within-below : b < first → within first last b ≡ false
  unfolding within
  within-below l = rw (lt-leb first b l)

  pub within-above : last < b → within first last b ≡ false
  unfolding within
  within-above u = go (leb first b)
    where
      go : (t : Bool) → (t && leb b last) ≡ false
      go true = lt-leb b last u
      go false = refl

module _ (b : ℕ) where
  pub class-digit : 48 ≤ b → b < 58 → Digit ≡ class_of b
  unfolding class_of
  class-digit l u = rw (within_in 48 57 b l (omega arith))

  pub class-upper : 65 ≤ b → b < 91 → Letter ≡ class_of b
  unfolding class_of
  class-upper l u = rw (within-above 48 57 b (omega arith), within_in 65 90 b l (omega arith))

  pub class-lower : 97 ≤ b → b < 123 → Letter ≡ class_of b
  unfolding class_of
  class-lower l u = rw (within-above 48 57 b (omega arith), within-above 65 90 b (omega arith), within_in 97 122 b l (omega arith))

  pub class-other : within 48 57 b ≡ false → within 65 90 b ≡ false → within 97 122 b ≡ false
      → ((b ≡ 9) ⊎ (b ≡ 32) → ⊥) → ((b ≡ 10) ⊎ (b ≡ 13) → ⊥) → Other ≡ class_of b
  unfolding class_of
  class-other d u l k e =
      rw
      (d, u, l, ne_eqb b 9 (λ q. k (inl q)), ne_eqb b 32 (λ q. k (inr q)), ne_eqb b 10 (λ q. e (inl q)), ne_eqb b 13 (λ q. e (inr q)))

  pub upper_in : 97 ≤ b → b < 123 → b - 32 ≡ upper b
  unfolding upper
  upper_in l u = rw (within_in 97 122 b l (omega arith))

  pub upper-below : b < 97 → b ≡ upper b
  unfolding upper
  upper-below l = rw (within-below 97 122 b l)

  pub upper-above : 123 ≤ b → b ≡ upper b
  unfolding upper
  upper-above u = rw (within-above 97 122 b u)

-- a digit is a byte of the class of digits
unfoldable pub is_digit : Class → Bool
is_digit Digit = true
is_digit Letter = false
is_digit Blank = false
is_digit LineEnd = false
is_digit Other = false

pub digit-class : (b : ℕ) → is_digit (class_of b) ≡ within 48 57 b
unfolding class_of is_digit
digit-class b = go (within 48 57 b) (within 65 90 b || within 97 122 b) (eqb b 9 || eqb b 32) (eqb b 10 || eqb b 13)
  where
    go : (d l k e : Bool) → is_digit (cond d Digit (cond l Letter (cond k Blank (cond e LineEnd Other)))) ≡ d
    go true l k e = refl
    go false true k e = refl
    go false false true e = refl
    go false false false true = refl
    go false false false false = refl

-- what stands before the next byte where no word goes on
abbrev pub before : Bool → Before
before first = cond first at_start in_gap

-- after a byte of words a word goes on
pub after-word : (k : Class) (s : Before) → of_words k ≡ true → after k s ≡ in_word
unfolding of_words after
after-word Digit s e = refl
after-word Letter s e = refl
after-word Blank s e = absurd (false≢true e)
after-word LineEnd s e = absurd (false≢true e)
after-word Other s e = refl

-- a byte of words begins a word where none goes on
pub begins-word : (k : Class) (first : Bool) → begins k (before first) ≡ of_words k
unfolding begins
begins-word k true = refl
begins-word k false = refl

pub is-first : (first : Bool) → is_first (before first) ≡ first
unfolding is_first
is-first true = refl
is-first false = refl

-- after a blank or a line end no word goes on
pub after-gap : (k : Class) (first : Bool) → of_words k ≡ false → after k (before first) ≡ before (first_after k first)
unfolding of_words after first_after
after-gap Digit first e = absurd (true≢false e)
after-gap Letter first e = absurd (true≢false e)
after-gap Blank true e = refl
after-gap Blank false e = refl
after-gap LineEnd true e = refl
after-gap LineEnd false e = refl
after-gap Other first e = absurd (true≢false e)

-- a blank or a line end ends a word
pub after-end : (k : Class) → of_words k ≡ false → after k in_word ≡ after k in_gap
unfolding of_words after
after-end Digit e = absurd (true≢false e)
after-end Letter e = absurd (true≢false e)
after-end Blank e = refl
after-end LineEnd e = refl
after-end Other e = absurd (true≢false e)
