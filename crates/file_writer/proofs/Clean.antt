-- The fields of any line are clean: no semicolon, no comment, no blank at their ends.
-- Assumes nothing.
use Prim.Native.Nat.{ℕ, zero, suc, ◌+◌, ◌≤◌, ◌<◌}
use lib.Dec.{eqb}
use lib.ListN.{length, drop}
use mathlib.Core.Bool.{Bool, true, false, not, cond, ◌&&◌, ◌||◌, false≢true}
use mathlib.Core.List.{List, [], ◌∷◌, ◌++◌, map}
use mathlib.Core.Path.{◌≡◌, refl, sym, ap, ◌∙◌, subst}
use native.Mathlib.Omega.{arith}
use Rattle.file_spec.specs.Pieces.{Piece, is_blank, is_byte, before, grow, cut, pieces, front_trimmed, keep, back_trimmed, trimmed, content, holds, separator, unclosed, closes as closes_quote, opens_quote, unquoted, field, is_empty, unless, full, keep_field, end_trimmed, parted, fields_by, fields}
use Rattle.file_writer.proofs.Cuts.{Free, piece_of}
use Rattle.file_writer.proofs.Plain.{holds-free}
use Rattle.file_writer.specs.RoundTrip.{opens, closes}

-- ── What a test does not take is not taken in a part ──

module _ (p : ℕ → Bool) where
  free-keep : (b : ℕ) (l : List ℕ) → p b ≡ false → Free p l → Free p (keep b l)
  unfolding keep
  free-keep b [] e f = go (is_blank b)
    where
      go : (x : Bool) → Free p (cond x [] (b ∷ []))
      go true = tt
      go false = (e, tt)
  free-keep b (c ∷ t) e f = (e, f)

  free_back : (l : List ℕ) → Free p l → Free p (back_trimmed l)
  unfolding back_trimmed
  free_back [] f = tt
  free_back (b ∷ t) f = free-keep b (back_trimmed t) f.0 (free_back t f.1)

  free-front : (at : ℕ) (l : List ℕ) → Free p l → Free p (front_trimmed at l).letters
  unfolding front_trimmed
  free-front at [] f = tt
  free-front at (b ∷ t) f = go (is_blank b) (free-front (suc at) t f.1)
    where
      go : (x : Bool) → Free p (front_trimmed (suc at) t).letters → Free p (cond x (front_trimmed (suc at) t) (record { at = at; letters = b ∷ t })).letters
      go true g = g
      go false g = f

  free-trimmed : (q : Piece) → Free p q.letters → Free p (trimmed q).letters
  unfolding trimmed
  free-trimmed q f = free-front q.at (back_trimmed q.letters) (free_back q.letters f)

  free-before : (q : ℕ → Bool) (l : List ℕ) → Free p l → Free p (before q l)
  unfolding before
  free-before q [] f = tt
  free-before q (b ∷ t) f = go (q b) (free-before q t f.1)
    where
      go : (x : Bool) → Free p (before q t) → Free p (cond x [] (b ∷ before q t))
      go true g = tt
      go false g = (f.0, g)

  before-free : (l : List ℕ) → Free p (before p l)
  unfolding before
  before-free [] = tt
  before-free (b ∷ t) = go (p b) refl (before-free t)
    where
      go : (x : Bool) → p b ≡ x → Free p (before p t) → Free p (cond x [] (b ∷ before p t))
      go true e g = tt
      go false e g = (e, g)

  free-unclosed : (l : List ℕ) → Free p l → Free p (unclosed l)
  unfolding unclosed
  free-unclosed [] f = tt
  free-unclosed (b ∷ []) f = tt
  free-unclosed (b ∷ c ∷ t) f = (f.0, free-unclosed (c ∷ t) f.1)

  free-rest : (l : List ℕ) → Free p l → Free p (drop 1 l)
  free-rest [] f = tt
  free-rest (b ∷ t) f = f.1

  free-unquoted : (q : Piece) → Free p q.letters → Free p (unquoted q).letters
  unfolding unquoted
  free-unquoted q f = go (opens_quote q.letters && closes_quote (drop 1 q.letters))
    where
      go : (x : Bool) → Free p (cond x (trimmed (record { at = suc q.at; letters = unclosed (drop 1 q.letters) })) q).letters
      go true = free-trimmed (record { at = suc q.at; letters = unclosed (drop 1 q.letters) }) (free-unclosed (drop 1 q.letters) (free-rest q.letters f))
      go false = f

  free-field : (q : Piece) → Free p q.letters → Free p (field q).letters
  unfolding field
  free-field q f = free-unquoted (trimmed q) (free-trimmed q f)

-- ── The ends of what is trimmed ──

back-closes : (l : List ℕ) → closes is_blank (back_trimmed l) ≡ false
unfolding back_trimmed closes keep
back-closes [] = refl
back-closes (b ∷ t) = go (back_trimmed t) (back-closes t)
  where
    one : (x : Bool) → is_blank b ≡ x → closes is_blank (cond x [] (b ∷ [])) ≡ false
    one true e = refl
    one false e = e

    go : (l : List ℕ) → closes is_blank l ≡ false → closes is_blank (keep b l) ≡ false
    go [] e = one (is_blank b) refl
    go (c ∷ u) e = e

front-closes : (at : ℕ) (l : List ℕ) → closes is_blank l ≡ false → closes is_blank (front_trimmed at l).letters ≡ false
unfolding front_trimmed closes
front-closes at [] e = refl
front-closes at (b ∷ t) e = go (is_blank b) (front-closes (suc at) t (rest t e))
  where
    rest : (t : List ℕ) → closes is_blank (b ∷ t) ≡ false → closes is_blank t ≡ false
    rest [] e = refl
    rest (c ∷ u) e = e

    go : (x : Bool) → closes is_blank (front_trimmed (suc at) t).letters ≡ false → closes is_blank (cond x (front_trimmed (suc at) t) (record { at = at; letters = b ∷ t })).letters ≡ false
    go true g = g
    go false g = e

front-opens : (at : ℕ) (l : List ℕ) → opens is_blank (front_trimmed at l).letters ≡ false
unfolding front_trimmed opens
front-opens at [] = refl
front-opens at (b ∷ t) = go (is_blank b) refl (front-opens (suc at) t)
  where
    go : (x : Bool) → is_blank b ≡ x → opens is_blank (front_trimmed (suc at) t).letters ≡ false
        → opens is_blank (cond x (front_trimmed (suc at) t) (record { at = at; letters = b ∷ t })).letters ≡ false
    go true e g = g
    go false e g = e

-- a piece without blanks at its ends
abbrev Tight : Piece → Type 0
Tight q = (opens is_blank q.letters ≡ false) × (closes is_blank q.letters ≡ false)

trimmed-tight : (q : Piece) → Tight (trimmed q)
unfolding trimmed
trimmed-tight q = (front-opens q.at (back_trimmed q.letters), front-closes q.at (back_trimmed q.letters) (back-closes q.letters))

field-tight : (q : Piece) → Tight (field q)
unfolding field unquoted
field-tight q = go (opens_quote (trimmed q).letters && closes_quote (drop 1 (trimmed q).letters))
  where
    go : (x : Bool) → Tight (cond x (trimmed (record { at = suc (trimmed q).at; letters = unclosed (drop 1 (trimmed q).letters) })) (trimmed q))
    go true = trimmed-tight (record { at = suc (trimmed q).at; letters = unclosed (drop 1 (trimmed q).letters) })
    go false = trimmed-tight q

-- ── Pieces, all of them ──

abbrev pub Each : (Piece → Type 0) → List Piece → Type 0
Each P [] = Unit {0}
Each P (q ∷ qs) = P q × Each P qs

abbrev AllFree : (ℕ → Bool) → List Piece → Type 0
AllFree p qs = Each (λ x. Free p x.letters) qs

grown : (p : ℕ → Bool) (at b : ℕ) (qs : List Piece) → p b ≡ false → AllFree p qs → AllFree p (grow at b qs)
unfolding grow
grown p at b [] e g = tt
grown p at b (q ∷ qs) e g = ((e, g.0), g.1)

-- pieces of a text that the test does not take
free-pieces : (p q : ℕ → Bool) (at : ℕ) (l : List ℕ) → Free p l → AllFree p (pieces q at l)
unfolding pieces cut
free-pieces p q at [] f = (tt, tt)
free-pieces p q at (b ∷ t) f = go (q b) (free-pieces p q (suc at) t f.1)
  where
    go : (x : Bool) → AllFree p (pieces q (suc at) t) → AllFree p (cut x at b (pieces q (suc at) t))
    go true g = (tt, g)
    go false g = grown p at b (pieces q (suc at) t) f.0 g

-- pieces between the bytes that the test takes
pieces-free : (p : ℕ → Bool) (at : ℕ) (l : List ℕ) → AllFree p (pieces p at l)
unfolding pieces cut
pieces-free p at [] = (tt, tt)
pieces-free p at (b ∷ t) = go (p b) refl (pieces-free p (suc at) t)
  where
    go : (x : Bool) → p b ≡ x → AllFree p (pieces p (suc at) t) → AllFree p (cut x at b (pieces p (suc at) t))
    go true e g = (tt, g)
    go false e g = grown p at b (pieces p (suc at) t) e g

fields_free : (p : ℕ → Bool) (qs : List Piece) → AllFree p qs → AllFree p (map field qs)
fields_free p [] g = tt
fields_free p (q ∷ qs) g = (free-field p q g.0, fields_free p qs g.1)

fields-tight : (qs : List Piece) → Each Tight (map field qs)
fields-tight [] = tt
fields-tight (q ∷ qs) = (field-tight q, fields-tight qs)

module _ (P : Piece → Type 0) where
  each-full : (qs : List Piece) → Each P qs → Each P (full qs)
  unfolding full unless
  each-full [] g = tt
  each-full (q ∷ qs) g = go (is_empty q.letters) (each-full qs g.1)
    where
      go : (x : Bool) → Each P (full qs) → Each P (unless x q (full qs))
      go true h = h
      go false h = (g.0, h)

  each_keep : (q : Piece) (qs : List Piece) → P q → Each P qs → Each P (keep_field q qs)
  unfolding keep_field
  each_keep q [] h g = go (is_empty q.letters)
    where
      go : (x : Bool) → Each P (cond x [] (q ∷ []))
      go true = tt
      go false = (h, tt)
  each_keep q (r ∷ qs) h g = (h, g)

  each-trimmed : (qs : List Piece) → Each P qs → Each P (end_trimmed qs)
  unfolding end_trimmed
  each-trimmed [] g = tt
  each-trimmed (q ∷ qs) g = each_keep q (end_trimmed qs) g.0 (each-trimmed qs g.1)

  each-by : (s : ℕ) (q : Piece) → Each P (parted s q) → Each P (fields_by s q)
  unfolding fields_by
  each-by s q g = go (eqb s 32)
    where
      go : (x : Bool) → Each P (end_trimmed (cond x (full (parted s q)) (parted s q)))
      go true = each-trimmed (full (parted s q)) (each-full (parted s q) g)
      go false = each-trimmed (parted s q) g

-- ── The fields of a line ──

semicolons : (q : Piece) → AllFree (is_byte 59) (parted (separator q.letters) q)
unfolding separator parted
semicolons q = go (holds 59 q.letters) refl
  where
    go : (x : Bool) → holds 59 q.letters ≡ x
        → AllFree (is_byte 59) (map field (pieces (is_byte (cond x 59 (cond (holds 9 q.letters) 9 (cond (holds 44 q.letters) 44 32)))) q.at q.letters))
    go true e = fields_free (is_byte 59) (pieces (is_byte 59) q.at q.letters) (pieces-free (is_byte 59) q.at q.letters)
    go false e =
        let s : ℕ = cond (holds 9 q.letters) 9 (cond (holds 44 q.letters) 44 32) in
        fields_free (is_byte 59) (pieces (is_byte s) q.at q.letters) (free-pieces (is_byte 59) (is_byte s) q.at q.letters (holds-free 59 q.letters e))

comments : (s : ℕ) (q : Piece) → Free (is_byte 35) q.letters → AllFree (is_byte 35) (parted s q)
unfolding parted
comments s q f = fields_free (is_byte 35) (pieces (is_byte s) q.at q.letters) (free-pieces (is_byte 35) (is_byte s) q.at q.letters f)

content-free : (q : Piece) → Free (is_byte 35) (content q).letters
unfolding content
content-free q = free-trimmed (is_byte 35) (record { at = q.at; letters = before (is_byte 35) q.letters }) (before-free (is_byte 35) q.letters)

tight : (s : ℕ) (q : Piece) → Each Tight (parted s q)
unfolding parted
tight s q = fields-tight (pieces (is_byte s) q.at q.letters)

-- a clean field
pub record Clean (f : Piece) : Type 0 where
  pub no-semicolon : Free (is_byte 59) f.letters
  pub no-comment : Free (is_byte 35) f.letters
  pub opens-full : opens is_blank f.letters ≡ false
  pub closes-full : closes is_blank f.letters ≡ false

together : (qs : List Piece) → AllFree (is_byte 59) qs → AllFree (is_byte 35) qs → Each Tight qs → Each Clean qs
together [] a b c = tt
together (q ∷ qs) a b c = (record { no-semicolon = a.0; no-comment = b.0; opens-full = c.0.0; closes-full = c.0.1 }, together qs a.1 b.1 c.1)

pub fields-clean : (p : Piece) → Each Clean (fields p)
unfolding fields
fields-clean p =
    let q = content p in
    let s = separator (content p).letters in
    each-by Clean s q (together (parted s q) (semicolons q) (comments s q (content-free p)) (tight s q))

pub each_append : (P : Piece → Type 0) (qs rs : List Piece) → Each P (qs ++ rs) → Each P rs
each_append P [] rs g = g
each_append P (q ∷ qs) rs g = each_append P qs rs g.1
