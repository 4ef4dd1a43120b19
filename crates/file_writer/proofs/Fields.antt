-- The fields of a line that was written are the fields that were written, whichever byte parts them.
-- Assumes nothing.
use Prim.Native.Nat.{ℕ, zero, suc, ◌+◌, ◌≤◌, ◌<◌}
use borrow.Author.Tests.{eqb-true}
use lib.Dec.{eqb}
use lib.ListN.{length}
use mathlib.Core.Bool.{Bool, true, false, cond, ◌&&◌, ◌||◌, false≢true}
use mathlib.Core.List.{List, [], ◌∷◌, ◌++◌, map}
use mathlib.Core.Path.{◌≡◌, refl, sym, ap, ◌∙◌, subst}
use native.Mathlib.Omega.{arith}
use Rattle.file_spec.specs.Pieces.{Piece, ends_line, is_blank, is_byte, pieces, content, holds, separator, field, is_empty, unless, full, keep_field, end_trimmed, parted, fields_by, fields}
use Rattle.file_writer.proofs.Cuts.{Free, Some, free-append, piece_of, pieces-first, pieces-last, content-kept, holds-there, field-kept, opens-append, closes-append, some-append, some_after}
use Rattle.file_writer.specs.Forms.{is_separator, goes_before, parts, line_by}
use Rattle.file_writer.specs.RoundTrip.{opens, closes}

-- ── The bytes that part fields ──

pub or_left : (x y : Bool) → (x || y) ≡ false → x ≡ false
or_left true y e = e
or_left false y e = refl

pub or_right : (x y : Bool) → (x || y) ≡ false → y ≡ false
or_right true y e = absurd (false≢true (sym e))
or_right false y e = e

-- which one it is
pub data Separator : ℕ → Type 0 where
  semicolon : Separator 59
  tab : Separator 9
  comma : Separator 44
  blank : Separator 32

pub separator-is : (s : ℕ) → is_separator s ≡ true → Separator s
unfolding is_separator
separator-is s e = go (eqb s 59) (eqb s 9) (eqb s 44) (eqb s 32) refl refl refl refl e
  where
    go : (a b c d : Bool) → eqb s 59 ≡ a → eqb s 9 ≡ b → eqb s 44 ≡ c → eqb s 32 ≡ d → (a || b || c || d) ≡ true → Separator s
    go true b c d h i j k e = subst Separator (sym (eqb-true s 59 h)) semicolon
    go false true c d h i j k e = subst Separator (sym (eqb-true s 9 i)) tab
    go false false true d h i j k e = subst Separator (sym (eqb-true s 44 j)) comma
    go false false false true h i j k e = subst Separator (sym (eqb-true s 32 k)) blank
    go false false false false h i j k e = absurd (false≢true e)

pub no-comment-byte : (s : ℕ) → Separator s → is_byte 35 s ≡ false
unfolding is_byte
no-comment-byte s semicolon = refl
no-comment-byte s tab = refl
no-comment-byte s comma = refl
no-comment-byte s blank = refl

pub no-line-end : (s : ℕ) → Separator s → ends_line s ≡ false
unfolding ends_line
no-line-end s semicolon = refl
no-line-end s tab = refl
no-line-end s comma = refl
no-line-end s blank = refl

-- what a stronger test does not take
pub free-weaker : (p q : ℕ → Bool) → ((b : ℕ) → p b ≡ false → q b ≡ false) → (l : List ℕ) → Free p l → Free q l
free-weaker p q g [] f = tt
free-weaker p q g (b ∷ t) f = (g b f.0, free-weaker p q g t f.1)

pub free-holds : (c : ℕ) (w : List ℕ) → Free (is_byte c) w → holds c w ≡ false
unfolding holds is_byte
free-holds c [] f = refl
free-holds c (b ∷ t) f = rw f.0 (free-holds c t f.1)

own : (s b : ℕ) → parts s b ≡ false → is_byte s b ≡ false
unfolding parts
own s b e = or_left (is_byte s b) (goes_before s b) e

-- ── Fields ──

-- a field that stands as it is: at least one byte, no line end or comment, none of the bytes that part fields, no blank at its ends, no quote before it
pub record Plain (s : ℕ) (f : List ℕ) : Type 0 where
  pub some : Some f
  pub one_line : Free ends_line f
  pub no-comment : Free (is_byte 35) f
  pub no-separator : Free (parts s) f
  pub opens-full : opens is_blank f ≡ false
  pub closes-full : closes is_blank f ≡ false
  pub unquoted : opens (is_byte 34) f ≡ false

abbrev pub AllPlain : ℕ → List (List ℕ) → Type 0
AllPlain s [] = Unit {0}
AllPlain s (f ∷ fs) = Plain s f × AllPlain s fs

-- fields with their places
unfoldable pub placed : ℕ → List (List ℕ) → List Piece
placed at [] = []
placed at (f ∷ fs) = piece_of at f ∷ placed (suc (at + length f)) fs

-- the bytes of a line
pub line-free : (s : ℕ) (p : ℕ → Bool) → p s ≡ false → ((f : List ℕ) → Plain s f → Free p f) → (fs : List (List ℕ)) → AllPlain s fs → Free p (line_by s fs)
unfolding line_by
line-free s p e g [] h = tt
line-free s p e g (f ∷ []) h = g f h.0
line-free s p e g (f ∷ k ∷ fs) h = free-append p f (s ∷ line_by s (k ∷ fs)) (g f h.0) (e, line-free s p e g (k ∷ fs) h.1)

line-some : (s : ℕ) (f : List ℕ) (fs : List (List ℕ)) → Plain s f → Some (line_by s (f ∷ fs))
unfolding line_by
line-some s f [] h = h.some
line-some s f (g ∷ fs) h = some-append f (s ∷ line_by s (g ∷ fs)) h.some

line-opens : (s : ℕ) (f : List ℕ) (fs : List (List ℕ)) → Plain s f → opens is_blank (line_by s (f ∷ fs)) ≡ false
unfolding line_by
line-opens s f [] h = h.opens-full
line-opens s f (g ∷ fs) h = opens-append is_blank f (s ∷ line_by s (g ∷ fs)) h.some ∙ h.opens-full

line-closes : (s : ℕ) (fs : List (List ℕ)) → AllPlain s fs → closes is_blank (line_by s fs) ≡ false
unfolding line_by closes
line-closes s [] h = refl
line-closes s (f ∷ []) h = h.0.closes-full
line-closes s (f ∷ g ∷ fs) h =
    closes-append is_blank f (s ∷ line_by s (g ∷ fs)) tt ∙ closes-append is_blank (s ∷ []) (line_by s (g ∷ fs)) (line-some s g fs h.1.0) ∙ line-closes s (g ∷ fs) h.1

-- the byte parts the fields, and none that goes before it is in the line
line-holds : (s : ℕ) (f g : List ℕ) (fs : List (List ℕ)) → holds s (line_by s (f ∷ g ∷ fs)) ≡ true
unfolding line_by
line-holds s f g fs = holds-there s f (line_by s (g ∷ fs))

module _ (s c : ℕ) (other : is_byte c s ≡ false) (stronger : (b : ℕ) → parts s b ≡ false → is_byte c b ≡ false) where
  line-lacks : (fs : List (List ℕ)) → AllPlain s fs → holds c (line_by s fs) ≡ false
  line-lacks fs h = free-holds c (line_by s fs) (line-free s (is_byte c) other (λ f p. free-weaker (parts s) (is_byte c) stronger f p.no-separator) fs h)

apart : (a b : ℕ) → eqb b a ≡ false → is_byte a b ≡ false
unfolding is_byte
apart a b e = e

tab-semicolon : (b : ℕ) → parts 9 b ≡ false → is_byte 59 b ≡ false
unfolding parts goes_before
tab-semicolon b e = or_left (is_byte 59 b) false (or_right (is_byte 9 b) (is_byte 59 b || false) e)

comma-semicolon : (b : ℕ) → parts 44 b ≡ false → is_byte 59 b ≡ false
unfolding parts goes_before
comma-semicolon b e = or_left (is_byte 59 b) (is_byte 9 b || false) (or_right (is_byte 44 b) (is_byte 59 b || (is_byte 9 b || false)) e)

comma-tab : (b : ℕ) → parts 44 b ≡ false → is_byte 9 b ≡ false
unfolding parts goes_before
comma-tab b e = or_left (is_byte 9 b) false (or_right (is_byte 59 b) (is_byte 9 b || false) (or_right (is_byte 44 b) (is_byte 59 b || (is_byte 9 b || false)) e))

blank-semicolon : (b : ℕ) → parts 32 b ≡ false → is_byte 59 b ≡ false
unfolding parts goes_before
blank-semicolon b e = or_left (is_byte 59 b) (is_byte 9 b || is_byte 44 b) (or_right (is_byte 32 b) (is_byte 59 b || (is_byte 9 b || is_byte 44 b)) e)

blank-tab : (b : ℕ) → parts 32 b ≡ false → is_byte 9 b ≡ false
unfolding parts goes_before
blank-tab b e =
    or_left (is_byte 9 b) (is_byte 44 b) (or_right (is_byte 59 b) (is_byte 9 b || is_byte 44 b) (or_right (is_byte 32 b) (is_byte 59 b || (is_byte 9 b || is_byte 44 b)) e))

blank-comma : (b : ℕ) → parts 32 b ≡ false → is_byte 44 b ≡ false
unfolding parts goes_before
blank-comma b e =
    or_right (is_byte 9 b) (is_byte 44 b) (or_right (is_byte 59 b) (is_byte 9 b || is_byte 44 b) (or_right (is_byte 32 b) (is_byte 59 b || (is_byte 9 b || is_byte 44 b)) e))

line-parted : (s : ℕ) → Separator s → (f g : List ℕ) (fs : List (List ℕ)) → AllPlain s (f ∷ g ∷ fs) → separator (line_by s (f ∷ g ∷ fs)) ≡ s
unfolding separator
line-parted s semicolon f g fs h = rw (line-holds 59 f g fs)
line-parted s tab f g fs h = rw (line-lacks 9 59 (apart 59 9 refl) tab-semicolon (f ∷ g ∷ fs) h, line-holds 9 f g fs)
line-parted s comma f g fs h =
    rw (
      line-lacks 44 59 (apart 59 44 refl) comma-semicolon (f ∷ g ∷ fs) h,
      line-lacks 44 9 (apart 9 44 refl) comma-tab (f ∷ g ∷ fs) h,
      line-holds 44 f g fs,
    )
line-parted s blank f g fs h =
    rw (
      line-lacks 32 59 (apart 59 32 refl) blank-semicolon (f ∷ g ∷ fs) h,
      line-lacks 32 9 (apart 9 32 refl) blank-tab (f ∷ g ∷ fs) h,
      line-lacks 32 44 (apart 44 32 refl) blank-comma (f ∷ g ∷ fs) h,
    )

self : (s : ℕ) → Separator s → is_byte s s ≡ true
unfolding is_byte
self s semicolon = refl
self s tab = refl
self s comma = refl
self s blank = refl

parted-placed : (s : ℕ) → Separator s → (at : ℕ) (f : List ℕ) (fs : List (List ℕ)) → AllPlain s (f ∷ fs) → map field (pieces (is_byte s) at (line_by s (f ∷ fs))) ≡ placed at (f ∷ fs)
unfolding line_by placed
parted-placed s p at f [] h =
    rw (pieces-last (is_byte s) at f (free-weaker (parts s) (is_byte s) (own s) f h.0.no-separator), field-kept at f h.0.opens-full h.0.closes-full h.0.unquoted)
parted-placed s p at f (g ∷ fs) h =
    rw (
      pieces-first (is_byte s) at f s (line_by s (g ∷ fs)) (free-weaker (parts s) (is_byte s) (own s) f h.0.no-separator) (self s p),
      field-kept at f h.0.opens-full h.0.closes-full h.0.unquoted,
      parted-placed s p (suc (at + length f)) g fs h.1,
    )

some-full : (f : List ℕ) → Some f → is_empty f ≡ false
unfolding is_empty
some-full [] h = absurd h
some-full (b ∷ t) h = refl

module _ (s : ℕ) where
  last-full : (at : ℕ) (f : List ℕ) (fs : List (List ℕ)) → Plain s f → keep_field (piece_of at f) (placed (suc (at + length f)) fs) ≡ piece_of at f ∷ placed (suc (at + length f)) fs
  unfolding keep_field placed
  last-full at f [] h = rw (some-full f h.some)
  last-full at f (g ∷ fs) h = refl

  placed-full : (at : ℕ) (fs : List (List ℕ)) → AllPlain s fs → end_trimmed (placed at fs) ≡ placed at fs
  unfolding end_trimmed placed
  placed-full at [] h = refl
  placed-full at (f ∷ fs) h = rw (placed-full (suc (at + length f)) fs h.1) (last-full at f fs h.0)

  -- no field is empty
  all-full : (at : ℕ) (fs : List (List ℕ)) → AllPlain s fs → full (placed at fs) ≡ placed at fs
  unfolding full unless placed
  all-full at [] h = refl
  all-full at (f ∷ fs) h = rw (some-full f h.0.some, all-full (suc (at + length f)) fs h.1)

either_way : (x : Bool) (a b : List Piece) → a ≡ b → cond x a b ≡ b
either_way true a b e = e
either_way false a b e = refl

pub written-fields : (s : ℕ) → Separator s → (at : ℕ) (f g : List ℕ) (fs : List (List ℕ)) → AllPlain s (f ∷ g ∷ fs) → fields (piece_of at (line_by s (f ∷ g ∷ fs))) ≡ placed at (f ∷ g ∷ fs)
unfolding fields fields_by parted
written-fields s p at f g fs h =
    rw (
      content-kept at (line_by s (f ∷ g ∷ fs)) (line-free s (is_byte 35) (no-comment-byte s p) (λ f p. p.no-comment) (f ∷ g ∷ fs) h) (line-opens s f (g ∷ fs) h.0) (line-closes s (f ∷ g ∷ fs) h),
      line-parted s p f g fs h,
      parted-placed s p at f (g ∷ fs) h,
      either_way (eqb s 32) (full (placed at (f ∷ g ∷ fs))) (placed at (f ∷ g ∷ fs)) (all-full s at (f ∷ g ∷ fs) h),
    )
    (placed-full s at (f ∷ g ∷ fs) h)
