-- One turn of each loop over what is left of a text or a word, and the loop's end.
-- Assumes nothing.
use Rattle.std.proofs.Common.{rules, ◌≡◌, ◌≤◌, ◌<◌, ℕ, suc, ◌+◌, ◌-◌, ◌*◌, Bool, true, false, not, cond, ◌&&◌, List, [], ◌∷◌, length, get_or, drop, map, refl, sym, ap, ◌∙◌, arith, add-one, drop-cons, ◌↔◌, IsTrue, pos}
use Rattle.std.specs.Prelude.{Option as Answer, Some, None}
use Rattle.std.specs.Option.{unwrap_or}
use Rattle.std.specs.List.{position, position_or_len}
use Rattle.std.specs.Cmp.Lexicographic.{pointwise}
use Rattle.std.specs.Char.{to_ascii_lowercase, is_ascii_digit}
use Rattle.std.proofs.lemmas.Bool.Decides.{nat_tests}
use Rattle.std.proofs.lemmas.List.Sums.{prefix_len-le-length}
use borrow.Author.Tests.{le-leb, lt-leb, eq-eqb, eqb-true, ltb-false}
use lib.Dec.{leb, ltb, eqb}
use lib.ListN.{drop_of_length-le, take, length-drop}
use lib.Seq.{take_all}
use mathlib.Core.Bool.{false≢true}
use Rattle.std.proofs.Math.Option.{Option, none, some, map as map_some}
use Rattle.stp_words.specs.Bytes.{within, class_of, of_words, upper}
use Rattle.stp_words.specs.Names.{same}
use Rattle.stp_words.specs.Numbers.{all_digits, is_empty, decimal, digits_to, max_below, max_price, opens_below, below, price_of}
use Rattle.stp_words.specs.Spans.{first_after, gap_from, end_from}

-- the place of the first that passes, or the number of all where none does
pub first_or_length : (p : ℕ → Bool) (l : List ℕ) {o : Answer ℕ} → o ≡ position p l → unwrap_or o (length l) ≡ position_or_len p l
first_or_length p l e = ap (λ o. unwrap_or o (length l)) e ∙ go (ltb (position_or_len p l) (length l)) refl
  where
    go : (t : Bool) → ltb (position_or_len p l) (length l) ≡ t → unwrap_or (cond t (Some (position_or_len p l)) None) (length l) ≡ position_or_len p l
    go true e = refl
    go false e = omega (arith, ltb-false (position_or_len p l) (length l) e, prefix_len-le-length (λ b. not (p b)) l)

-- the part of a list from a place on has all that is left
pub rest-all : (l : List ℕ) (k : ℕ) → take (length l - k) (drop k l) ≡ drop k l
rest-all l k = take_all (length l - k) (drop k l) (omega (arith, length-drop k l))

-- the end of a word is at the first byte that belongs to no word, or after all bytes
pub end_found : (l : List ℕ) (at : ℕ) → at + position_or_len (λ b. not (of_words (class_of b))) l ≡ end_from at l
unfolding end_from
end_found [] at = omega arith
end_found (b ∷ t) at = go (of_words (class_of b)) (end_found t (suc at))
  where
    go : (w : Bool) → suc at + position_or_len (λ b. not (of_words (class_of b))) t ≡ end_from (suc at) t
        → at + cond (not (not w)) (1 + position_or_len (λ b. not (of_words (class_of b))) t) 0 ≡ cond w (end_from (suc at) t) at
    go true e = omega (arith, e)
    go false e = omega arith

pub end_left : (text : List ℕ) (at : ℕ) {n : ℕ} → n ≡ position_or_len (λ b. not (of_words (class_of b))) (take (length text - at) (drop at text)) → at + n ≡ end_from at (drop at text)
end_left text at e = rw (e, rest-all text at) (end_found (drop at text) at)

module _ (text : List ℕ) (i : ℕ) (f : Bool) where
  pub gap-stop : i < length text → of_words (class_of (get_or text i 0)) ≡ true → gap_from i f (drop i text) ≡ record { at = i; first = f }
  unfolding gap_from
  gap-stop h w = rw (drop-cons text i 0 h, w)

  pub gap_more : i < length text → of_words (class_of (get_or text i 0)) ≡ false
      → gap_from i f (drop i text) ≡ gap_from (i + 1) (first_after (class_of (get_or text i 0)) f) (drop (i + 1) text)
  unfolding gap_from
  gap_more h w = rw (add-one i, drop-cons text i 0 h, w)

  pub gap-last : length text ≤ i → gap_from i f (drop i text) ≡ record { at = i; first = f }
  unfolding gap_from
  gap-last h = rw (drop_of_length-le text h)

-- two bytes have one upper case where they have one lower case
small : (a b : ℕ) → upper a ≡ upper b → to_ascii_lowercase a ≡ to_ascii_lowercase b
unfolding upper within
small a b e = grind (arith, nat_tests)

capital : (a b : ℕ) → to_ascii_lowercase a ≡ to_ascii_lowercase b → upper a ≡ upper b
unfolding upper within
capital a b e = grind (arith, nat_tests)

-- words are the same where they are in lower case
same_small : (s t : List ℕ) → same s t ≡ true → map to_ascii_lowercase s ≡ map to_ascii_lowercase t
unfolding same
same_small [] [] e = refl
same_small [] (b ∷ t) e = absurd (false≢true e)
same_small (a ∷ s) [] e = absurd (false≢true e)
same_small (a ∷ s) (b ∷ t) e = go (eqb (upper a) (upper b)) refl (same_small s t) e
  where
    go : (x : Bool) → eqb (upper a) (upper b) ≡ x → (same s t ≡ true → map to_ascii_lowercase s ≡ map to_ascii_lowercase t) → (x && same s t) ≡ true → (to_ascii_lowercase a ∷ map to_ascii_lowercase s) ≡ (to_ascii_lowercase b ∷ map to_ascii_lowercase t)
    go true h f e = rw (small a b (eqb-true (upper a) (upper b) h), f e)
    go false h f e = absurd (false≢true e)

small_same : (s t : List ℕ) → map to_ascii_lowercase s ≡ map to_ascii_lowercase t → same s t ≡ true
unfolding same
small_same [] [] e = refl
small_same [] (b ∷ t) e = absurd (search rules)
small_same (a ∷ s) [] e = absurd (search rules)
small_same (a ∷ s) (b ∷ t) e =
    rw (eq-eqb (upper a) (upper b) (capital a b (ap (λ l. get_or l 0 0) e)))
    (small_same s t (ap (λ l. drop 1 l) e))

-- a test of the words in lower case is that of the words
pub same_told : (r : Bool) (s t : List ℕ) → (IsTrue r ↔ (map to_ascii_lowercase s ≡ map to_ascii_lowercase t)) → r ≡ same s t
same_told true s t h = sym (small_same s t (h.0 refl))
same_told false s t h = go (same s t) refl
  where
    go : (x : Bool) → same s t ≡ x → false ≡ x
    go true e = h.1 (same_small s t e)
    go false e = refl

-- the number, at most `most`, that is read after the value v
unfoldable pub reading : ℕ → ℕ → List ℕ → Option ℕ
reading most v w = cond (all_digits w && leb (decimal v w) most) (some (decimal v w)) none

-- a value only grows
pub decimal-grows : (w : List ℕ) (v : ℕ) → v ≤ decimal v w
unfolding decimal
decimal-grows [] v = omega arith
decimal-grows (b ∷ t) v = omega (arith, decimal-grows t (10 * v + (b - 48)))

module _ (most : ℕ) where
  pub number-empty : (w : List ℕ) → length w ≡ 0 → digits_to most w ≡ none
  unfolding digits_to is_empty
  number-empty [] h = refl
  number-empty (b ∷ t) h = absurd (omega arith)

  pub number-start : (w : List ℕ) → (length w ≡ 0 → ⊥) → reading most 0 w ≡ digits_to most w
  unfolding digits_to is_empty reading
  number-start [] h = absurd (h refl)
  number-start (b ∷ t) h = refl

  -- a value that is too large stays so
  pub reading-large : (l : List ℕ) (v : ℕ) {o : Option ℕ} → reading most v l ≡ o → most < v → none ≡ o
  unfolding reading
  reading-large l v inv h = go (all_digits l) ∙ (rw large at inv)
    where
      large : leb (decimal v l) most ≡ false
      large = lt-leb (decimal v l) most (omega (arith, decimal-grows l v))

      go : (d : Bool) → none ≡ cond (d && false) (some (decimal v l)) none
      go true = refl
      go false = refl

  module _ (w : List ℕ) (i v : ℕ) {o : Option ℕ} (inv : reading most v (drop i w) ≡ o) where
    pub reading-more : i < length w → within 48 57 (get_or w i 0) ≡ true → reading most (10 * v + (get_or w i 0 - 48)) (drop (i + 1) w) ≡ o
    unfolding reading all_digits decimal
    reading-more h d = rw (add-one i) (rw (drop-cons w i 0 h, d) at inv)

    pub reading-stop : i < length w → within 48 57 (get_or w i 0) ≡ false → none ≡ o
    unfolding reading all_digits decimal
    reading-stop h d = rw (drop-cons w i 0 h, d) at inv

    pub reading-last : length w ≤ i → v ≤ most → some v ≡ o
    unfolding reading all_digits decimal
    reading-last h m = rw (drop_of_length-le w h, le-leb v most m) at inv

-- the library's test of a digit
pub digit : (b : ℕ) {t : Bool} → t ≡ is_ascii_digit b → within 48 57 b ≡ t
unfolding within
digit b e = sym e

-- a word opens with - where its first byte is that
pub opens : (w : List ℕ) {t : Bool} → pointwise eqb (take 1 w) (45 ∷ []) ≡ t → opens_below w ≡ t
unfolding opens_below
opens [] e = e
opens (b ∷ l) e = go (eqb b 45) e
  where
    go : (x : Bool) {t : Bool} → (x && true) ≡ t → x ≡ t
    go true e = e
    go false e = e

-- the price of a word, by whether it opens with -
module _ (w : List ℕ) (o : Option ℕ) where
  pub price-below : opens_below w ≡ true → o ≡ digits_to max_below (drop 1 w) → map_some below o ≡ price_of w
  unfolding price_of
  price-below e d = rw (e, d)

  pub price-above : opens_below w ≡ false → o ≡ digits_to max_price w → map_some pos o ≡ price_of w
  unfolding price_of
  price-above e d = rw (e, d)
