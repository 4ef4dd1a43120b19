-- What is written stands as a field: numbers, the two words, and names; and what each reads as.
-- Assumes nothing.
use Prim.Native.Nat.{ℕ, zero, suc, ◌+◌, ◌≤◌, ◌<◌}
use borrow.Author.Tests.{leb-true, leb-false, le-leb, lt-leb, ne_eqb, not-true, not-false, eqb-false}
use lib.Dec.{eqb, leb}
use lib.IntN.{ℤ, pos, negsuc}
use lib.ListN.{length}
use lib.Signed.{◌≤ℤ◌}
use mathlib.Core.Bool.{Bool, true, false, not, cond, ◌&&◌, ◌||◌, false≢true}
use mathlib.Core.List.{List, [], ◌∷◌, ◌++◌}
use mathlib.Core.Option.{Option, none, some, map, some-injective}
use mathlib.Core.Path.{◌≡◌, refl, sym, ap, ◌∙◌, subst}
use native.Mathlib.Omega.{arith}
use Rattle.decimal.proofs.Reading.{natural-digits, natural-some, reads-back}
use Rattle.decimal.specs.Decimal.{natural, integer}
use Rattle.decimal.specs.Reading.{read_natural}
use Rattle.rowset.proofs.Integers.{up, down, le_parts}
use Rattle.stp_words.specs.Bytes.{bytes, within, upper}
use Rattle.stp_words.specs.Names.{same}
use Rattle.stp_words.specs.Numbers.{max_number, max_price, max_below, all_digits, is_empty, decimal, digits_to, number_of, opens_below, below, price_of}
use Rattle.file_spec.specs.Line.{End, number, name, says, numbered, end_of, digit_mark, mark_of}
use Rattle.file_spec.specs.Names.{is_letter, of_names, any_letter, all_of_names, is_name}
use Rattle.file_spec.specs.Pieces.{Piece, ends_line, is_blank, is_byte, holds}
use Rattle.file_spec.specs.Writer.{end_bytes}
use Rattle.file_writer.proofs.Cuts.{Free, Some, piece_of}
use Rattle.file_writer.proofs.Fields.{Separator, semicolon, tab, comma, blank, Plain, or_left, or_right}
use Rattle.file_writer.specs.Forms.{goes_before, parts}
use Rattle.file_writer.specs.RoundTrip.{opens, closes, has_any, NameBytes, GoodEnd, good-number, good-name}

and_left : (x y : Bool) → (x && y) ≡ true → x ≡ true
and_left true y e = refl
and_left false y e = e

and_right : (x y : Bool) → (x && y) ≡ true → y ≡ true
and_right true y e = e
and_right false y e = absurd (false≢true e)

-- ── Bytes that stand anywhere in a field ──

solid : ℕ → Bool
solid b = not (ends_line b) && (not (is_byte 35 b) && (not (is_byte 59 b) && (not (is_blank b) && (not (is_byte 44 b) && not (is_byte 34 b)))))

all_solid : List ℕ → Bool
all_solid [] = true
all_solid (b ∷ t) = solid b && all_solid t

record Solid (b : ℕ) : Type 0 where
  one_line : ends_line b ≡ false
  no-comment : is_byte 35 b ≡ false
  no-semicolon : is_byte 59 b ≡ false
  no-blank : is_blank b ≡ false
  no-comma : is_byte 44 b ≡ false
  no-quote : is_byte 34 b ≡ false

is-solid : (b : ℕ) → solid b ≡ true → Solid b
unfolding solid
is-solid b e =
    let last : Bool = not (is_byte 44 b) && not (is_byte 34 b) in
    let e1 = and_right (not (ends_line b)) (not (is_byte 35 b) && (not (is_byte 59 b) && (not (is_blank b) && last))) e in
    let e2 = and_right (not (is_byte 35 b)) (not (is_byte 59 b) && (not (is_blank b) && last)) e1 in
    let e3 = and_right (not (is_byte 59 b)) (not (is_blank b) && last) e2 in
    let e4 = and_right (not (is_blank b)) last e3 in
    record {
      one_line = not-true (ends_line b) (and_left (not (ends_line b)) (not (is_byte 35 b) && (not (is_byte 59 b) && (not (is_blank b) && last))) e);
      no-comment = not-true (is_byte 35 b) (and_left (not (is_byte 35 b)) (not (is_byte 59 b) && (not (is_blank b) && last)) e1);
      no-semicolon = not-true (is_byte 59 b) (and_left (not (is_byte 59 b)) (not (is_blank b) && last) e2);
      no-blank = not-true (is_blank b) (and_left (not (is_blank b)) last e3);
      no-comma = not-true (is_byte 44 b) (and_left (not (is_byte 44 b)) (not (is_byte 34 b)) e4);
      no-quote = not-true (is_byte 34 b) (and_right (not (is_byte 44 b)) (not (is_byte 34 b)) e4);
    }

-- none of the bytes that part fields
no-tab : (b : ℕ) → Solid b → is_byte 9 b ≡ false
unfolding is_blank is_byte
no-tab b h = or_right (eqb b 32) (eqb b 9) h.no-blank

no-space : (b : ℕ) → Solid b → is_byte 32 b ≡ false
unfolding is_blank is_byte
no-space b h = or_left (eqb b 32) (eqb b 9) h.no-blank

solid-parts : (s : ℕ) → Separator s → (b : ℕ) → Solid b → parts s b ≡ false
unfolding parts goes_before
solid-parts s semicolon b h = rw h.no-semicolon
solid-parts s tab b h = rw (no-tab b h, h.no-semicolon)
solid-parts s comma b h = rw (h.no-comma, h.no-semicolon, no-tab b h)
solid-parts s blank b h = rw (no-space b h, h.no-semicolon, no-tab b h, h.no-comma)

module _ (p : ℕ → Bool) (no-p : (b : ℕ) → Solid b → p b ≡ false) where
  solid-free : (l : List ℕ) → all_solid l ≡ true → Free p l
  unfolding all_solid
  solid-free [] e = tt
  solid-free (b ∷ t) e = (no-p b (is-solid b (and_left (solid b) (all_solid t) e)), solid-free t (and_right (solid b) (all_solid t) e))

  solid-opens : (l : List ℕ) → all_solid l ≡ true → opens p l ≡ false
  unfolding all_solid opens
  solid-opens [] e = refl
  solid-opens (b ∷ t) e = no-p b (is-solid b (and_left (solid b) (all_solid t) e))

  solid-closes : (l : List ℕ) → all_solid l ≡ true → closes p l ≡ false
  unfolding all_solid closes
  solid-closes [] e = refl
  solid-closes (b ∷ []) e = no-p b (is-solid b (and_left (solid b) true e))
  solid-closes (b ∷ c ∷ t) e = solid-closes (c ∷ t) (and_right (solid b) (solid c && all_solid t) e)

solid-plain : (s : ℕ) → Separator s → (l : List ℕ) → Some l → all_solid l ≡ true → Plain s l
solid-plain s p l n e =
    record {
      some = n;
      one_line = solid-free ends_line (λ b h. h.one_line) l e;
      no-comment = solid-free (is_byte 35) (λ b h. h.no-comment) l e;
      no-separator = solid-free (parts s) (solid-parts s p) l e;
      opens-full = solid-opens is_blank (λ b h. h.no-blank) l e;
      closes-full = solid-closes is_blank (λ b h. h.no-blank) l e;
      unquoted = solid-opens (is_byte 34) (λ b h. h.no-quote) l e;
    }

-- ── Numbers ──

in-range : (a b c : ℕ) → within a b c ≡ true → (a ≤ c) × (c ≤ b)
unfolding within
in-range a b c e = (leb-true a c (and_left (leb a c) (leb c b) e), leb-true c b (and_right (leb a c) (leb c b) e))

digit-solid : (b : ℕ) → within 48 57 b ≡ true → solid b ≡ true
unfolding solid ends_line is_byte is_blank
digit-solid b e =
    let (h, g) = in-range 48 57 b e in
    rw (
      ne_eqb b 10 (λ q. omega arith),
      ne_eqb b 13 (λ q. omega arith),
      ne_eqb b 35 (λ q. omega arith),
      ne_eqb b 59 (λ q. omega arith),
      ne_eqb b 32 (λ q. omega arith),
      ne_eqb b 9 (λ q. omega arith),
      ne_eqb b 44 (λ q. omega arith),
      ne_eqb b 34 (λ q. omega arith),
    )

digits-solid : (l : List ℕ) → all_digits l ≡ true → all_solid l ≡ true
unfolding all_digits all_solid
digits-solid [] e = refl
digits-solid (b ∷ t) e = rw (digit-solid b (and_left (within 48 57 b) (all_digits t) e), digits-solid t (and_right (within 48 57 b) (all_digits t) e))

full-some : (l : List ℕ) → is_empty l ≡ false → Some l
unfolding is_empty
full-some [] e = absurd (false≢true (sym e))
full-some (b ∷ t) e = tt

pub natural-plain : (s : ℕ) → Separator s → (n : ℕ) → Plain s (natural n)
natural-plain s p n = solid-plain s p (natural n) (full-some (natural n) (natural-some n)) (digits-solid (natural n) (natural-digits n))

pub integer-plain : (s : ℕ) → Separator s → (z : ℤ) → Plain s (integer z)
unfolding integer all_solid solid ends_line is_byte is_blank
integer-plain s p (pos n) = natural-plain s p n
integer-plain s p (negsuc n) = solid-plain s p (45 ∷ natural (suc n)) tt (digits-solid (natural (suc n)) (natural-digits (suc n)))

module _ (s : ℕ) (p : Separator s) where
  pub struck-plain : Plain s (bytes "struck")
  unfolding bytes all_solid solid ends_line is_byte is_blank
  struck-plain = solid-plain s p (bytes "struck") tt refl

  pub junctions-plain : Plain s (bytes "junctions")
  unfolding bytes all_solid solid ends_line is_byte is_blank
  junctions-plain = solid-plain s p (bytes "junctions") tt refl

  pub left-plain : Plain s (bytes "left")
  unfolding bytes all_solid solid ends_line is_byte is_blank
  left-plain = solid-plain s p (bytes "left") tt refl

  pub right-plain : Plain s (bytes "right")
  unfolding bytes all_solid solid ends_line is_byte is_blank
  right-plain = solid-plain s p (bytes "right") tt refl

  pub price-plain : Plain s (bytes "price")
  unfolding bytes all_solid solid ends_line is_byte is_blank
  price-plain = solid-plain s p (bytes "price") tt refl

  pub mark-plain : Plain s (bytes "mark")
  unfolding bytes all_solid solid ends_line is_byte is_blank
  mark-plain = solid-plain s p (bytes "mark") tt refl

-- what a number reads as
value : (n : ℕ) → decimal 0 (natural n) ≡ n
unfolding read_natural
value n = some-injective _ _ (rw (natural-some n, natural-digits n) at (reads-back.naturals n))

digits-back : (most n : ℕ) → n ≤ most → digits_to most (natural n) ≡ some n
unfolding digits_to
digits-back most n h = rw (natural-some n, natural-digits n, value n, le-leb n most h)

pub number-back : (n : ℕ) → n ≤ 4294967295 → number_of (natural n) ≡ some n
unfolding number_of
number-back n h = digits-back max_number n h

digits_above : (l : List ℕ) → all_digits l ≡ true → opens_below l ≡ false
unfolding all_digits opens_below
digits_above [] e = refl
digits_above (b ∷ t) e = let (h, g) = in-range 48 57 b (and_left (within 48 57 b) (all_digits t) e) in ne_eqb b 45 (λ q. omega arith)

pub price-back : (z : ℤ) → negsuc 2147483647 ≤ℤ z → z ≤ℤ pos 2147483647 → price_of (integer z) ≡ some z
unfolding price_of integer opens_below below up down
price-back (pos n) h g = rw (digits_above (natural n) (natural-digits n), digits-back max_price n (omega (arith, le_parts g)))
price-back (negsuc n) h g = rw (digits-back max_below (suc n) (omega (arith, le_parts h)))

pub mark-back : (at m : ℕ) → m ≤ 1 → mark_of (piece_of at (natural m)) ≡ some m
unfolding mark_of digit_mark
mark-back at m h = rw (number-back m (omega arith), le-leb m 1 h)

-- numbers are none of the words
upper-kept : (b : ℕ) → b < 97 → upper b ≡ b
unfolding upper within
upper-kept b h = rw (lt-leb 97 b h)

and-false : (x : Bool) → (x && false) ≡ false
and-false true = refl
and-false false = refl

digit-upper : (b : ℕ) → within 48 57 b ≡ true → upper b ≡ b
digit-upper b e = let (h, g) = in-range 48 57 b e in upper-kept b (omega arith)

digits-no-word : (l : List ℕ) (c : ℕ) (word : List ℕ) → all_digits l ≡ true → 57 < upper c → same l (c ∷ word) ≡ false
unfolding all_digits same
digits-no-word [] c word e h = refl
digits-no-word (b ∷ t) c word e h =
    let d = and_left (within 48 57 b) (all_digits t) e in
    let (l, g) = in-range 48 57 b d in
    rw (digit-upper b d, ne_eqb b (upper c) (λ q. omega arith))

pub natural-no-struck : (n : ℕ) → same (natural n) (bytes "struck") ≡ false
unfolding bytes upper within
natural-no-struck n = digits-no-word (natural n) 115 _ (natural-digits n) (omega arith)

pub natural-no-junctions : (n : ℕ) → same (natural n) (bytes "junctions") ≡ false
unfolding bytes upper within
natural-no-junctions n = digits-no-word (natural n) 106 _ (natural-digits n) (omega arith)

pub integer-no-price : (z : ℤ) → same (integer z) (bytes "price") ≡ false
unfolding bytes integer same upper within
integer-no-price (pos n) = digits-no-word (natural n) 112 _ (natural-digits n) (omega arith)
integer-no-price (negsuc n) = refl

-- ── Names ──

letter-no-digit : (b : ℕ) → is_letter b ≡ true → within 48 57 b ≡ false
unfolding is_letter within
letter-no-digit b e = go (leb b 57) refl
  where
    low : b ≤ 57 → (within 65 90 b || within 97 122 b || leb 128 b) ≡ false
    low h = rw (lt-leb 65 b (omega arith), lt-leb 97 b (omega arith), lt-leb 128 b (omega arith))

    go : (x : Bool) → leb b 57 ≡ x → (leb 48 b && leb b 57) ≡ false
    go true h = absurd (false≢true (sym (low (leb-true b 57 h)) ∙ e))
    go false h = rw h (and-false (leb 48 b))

letters-no-digits : (w : List ℕ) → any_letter w ≡ true → all_digits w ≡ false
unfolding any_letter all_digits
letters-no-digits [] e = sym e
letters-no-digits (b ∷ t) e = go (is_letter b) refl e (letters-no-digits t)
  where
    go : (x : Bool) → is_letter b ≡ x → (x || any_letter t) ≡ true → (any_letter t ≡ true → all_digits t ≡ false) → (within 48 57 b && all_digits t) ≡ false
    go true h e f = rw (letter-no-digit b h)
    go false h e f = rw (f e) (and-false (within 48 57 b))

pub name-no-number : (w : List ℕ) → is_name w ≡ true → number_of w ≡ none
unfolding is_name number_of digits_to
name-no-number w e = go (not (is_empty w)) (all_digits w) (letters-no-digits w (and_left (any_letter w) (all_of_names w) e))
  where
    go : (x d : Bool) → d ≡ false → cond (x && d && leb (decimal 0 w) max_number) (some (decimal 0 w)) none ≡ none
    go x true h = absurd (false≢true (sym h))
    go true false h = refl
    go false false h = refl

name-some : (w : List ℕ) → any_letter w ≡ true → Some w
unfolding any_letter
name-some [] e = absurd (false≢true e)
name-some (b ∷ t) e = tt

name-byte : (b : ℕ) → of_names b ≡ true → (32 ≤ b) × (eqb b 34 ≡ false)
unfolding of_names
name-byte b e =
    let f = and_left (leb 32 b && not (eqb b 34)) (not (eqb b 127)) e in
    (leb-true 32 b (and_left (leb 32 b) (not (eqb b 34)) f), not-true (eqb b 34) (and_right (leb 32 b) (not (eqb b 34)) f))

name-line : (w : List ℕ) → all_of_names w ≡ true → Free ends_line w
unfolding all_of_names ends_line
name-line [] e = tt
name-line (b ∷ t) e =
    let (h, q) = name-byte b (and_left (of_names b) (all_of_names t) e) in
    (rw (ne_eqb b 10 (λ q. omega arith), ne_eqb b 13 (λ q. omega arith)), name-line t (and_right (of_names b) (all_of_names t) e))

name-quote : (w : List ℕ) → all_of_names w ≡ true → opens (is_byte 34) w ≡ false
unfolding all_of_names opens is_byte
name-quote [] e = refl
name-quote (b ∷ t) e = (name-byte b (and_left (of_names b) (all_of_names t) e)).1

pub holds-free : (c : ℕ) (w : List ℕ) → holds c w ≡ false → Free (is_byte c) w
unfolding holds is_byte
holds-free c [] e = tt
holds-free c (b ∷ t) e = go (eqb b c) refl e (holds-free c t)
  where
    go : (x : Bool) → eqb b c ≡ x → (x || holds c t) ≡ false → (holds c t ≡ false → Free (is_byte c) t) → (eqb b c ≡ false) × Free (is_byte c) t
    go true h e f = absurd (false≢true (sym e))
    go false h e f = (h, f e)

pub any-free : (p : ℕ → Bool) (w : List ℕ) → has_any p w ≡ false → Free p w
unfolding has_any
any-free p [] e = tt
any-free p (b ∷ t) e = (or_left (p b) (has_any p t) e, any-free p t (or_right (p b) (has_any p t) e))

pub name-plain : (s : ℕ) (w : List ℕ) → NameBytes s w → Plain s w
unfolding is_name
name-plain s w h =
    let letters = and_left (any_letter w) (all_of_names w) h.named in
    let others = and_right (any_letter w) (all_of_names w) h.named in
    record {
      some = name-some w letters;
      one_line = name-line w others;
      no-comment = holds-free 35 w h.no-comment;
      no-separator = any-free (parts s) w h.no-separator;
      opens-full = h.no-blank-before;
      closes-full = h.no-blank-behind;
      unquoted = name-quote w others;
    }

-- ── Ends ──

pub end-plain : (s : ℕ) → Separator s → (e : End) → GoodEnd s e → Plain s (end_bytes e)
unfolding end_bytes
end-plain s p e (good-number {v = v} h g) = natural-plain s p v
end-plain s p e (good-name {w = w} h) = name-plain s w h

pub end_back : (s : ℕ) (e : End) → GoodEnd s e → end_of (end_bytes e) ≡ some e
unfolding end_bytes end_of numbered
end_back s e (good-number {v = v} h g) = rw (number-back v (omega arith), le-leb 1 v h, le-leb v 255 g)
end_back s e (good-name {w = w} h) = rw (name-no-number w h.named, h.named)
