-- Where the pieces of a text lie: the letters of a field are the bytes of the text from its place on, and its place is one of the text's bytes.
-- Assumes nothing.
use Prim.Native.Nat.{ℕ, zero, suc, ◌+◌, ◌≤◌, ◌<◌}
use lib.Dec.{eqb}
use lib.ListN.{length, take, drop, length-drop}
use mathlib.Core.Bool.{Bool, true, false, cond, ◌&&◌}
use mathlib.Core.List.{List, [], ◌∷◌, ◌++◌, map}
use mathlib.Core.Path.{◌≡◌, refl, sym, ap, ◌∙◌}
use native.Mathlib.Omega.{arith}
use Rattle.file_spec.specs.Pieces.{Piece, is_blank, is_byte, ends_line, before, grow, cut, pieces, front_trimmed, keep, back_trimmed, trimmed, content, separator, unclosed, closes, opens_quote, unquoted, field, is_empty, unless, full, keep_field, end_trimmed, parted, fields_by, fields, lines}

-- ── Bytes that open others ──

abbrev pub Opens : List ℕ → List ℕ → Type 0
Opens [] r = Unit {0}
Opens (b ∷ t) [] = ⊥
Opens (b ∷ t) (c ∷ r) = (b ≡ c) × Opens t r

opens-self : (r : List ℕ) → Opens r r
opens-self [] = tt
opens-self (b ∷ r) = (refl, opens-self r)

opens-trans : (a b c : List ℕ) → Opens a b → Opens b c → Opens a c
opens-trans [] b c f g = tt
opens-trans (x ∷ a) [] c f g = absurd f
opens-trans (x ∷ a) (y ∷ b) [] f g = absurd g
opens-trans (x ∷ a) (y ∷ b) (z ∷ c) f g = (f.0 ∙ g.0, opens-trans a b c f.1 g.1)

opens-next : (text : List ℕ) (at b : ℕ) (t : List ℕ) → Opens (b ∷ t) (drop at text) → Opens t (drop (suc at) text)
opens-next [] zero b t h = absurd h
opens-next [] (suc at) b t h = absurd h
opens-next (c ∷ text) zero b t h = h.1
opens-next (c ∷ text) (suc at) b t h = opens-next text at b t h

opens-cons : (text : List ℕ) (at b : ℕ) (t l : List ℕ) → Opens (b ∷ t) (drop at text) → Opens l (drop (suc at) text) → Opens (b ∷ l) (drop at text)
opens-cons [] zero b t l h g = absurd h
opens-cons [] (suc at) b t l h g = absurd h
opens-cons (c ∷ text) zero b t l h g = (h.0, g)
opens-cons (c ∷ text) (suc at) b t l h g = opens-cons text at b t l h g

opens-length : (w r : List ℕ) → Opens w r → length w ≤ length r
opens-length [] r h = omega arith
opens-length (b ∷ w) [] h = absurd h
opens-length (b ∷ w) (c ∷ r) h = omega (arith, opens-length w r h.1)

pub opens-take : (w r : List ℕ) → Opens w r → take (length w) r ≡ w
opens-take [] r h = refl
opens-take (b ∷ w) [] h = absurd h
opens-take (b ∷ w) (c ∷ r) h = rw (opens-take w r h.1, h.0)

pub opens-inside : (text : List ℕ) (at : ℕ) (w : List ℕ) → Opens w (drop at text) → 1 ≤ length w → at + length w ≤ length text
opens-inside text at w h k = omega (arith, opens-length w (drop at text) h, length-drop at text)

-- ── Pieces ──

-- a piece's letters stand at its place; they lie between two places
abbrev pub Lies : List ℕ → Piece → Type 0
Lies text p = Opens p.letters (drop p.at text)

abbrev Spans : ℕ → ℕ → Piece → Type 0
Spans from to p = (from ≤ p.at) × (p.at + length p.letters ≤ to)

abbrev pub All : (Piece → Type 0) → List Piece → Type 0
All P [] = Unit {0}
All P (p ∷ ps) = P p × All P ps

back-opens : (l : List ℕ) → Opens (back_trimmed l) l
unfolding back_trimmed keep
back-opens [] = tt
back-opens (b ∷ t) = go (back_trimmed t) (back-opens t)
  where
    one : (x : Bool) → Opens (cond x [] (b ∷ [])) (b ∷ t)
    one true = tt
    one false = (refl, tt)

    go : (r : List ℕ) → Opens r t → Opens (keep b r) (b ∷ t)
    go [] h = one (is_blank b)
    go (c ∷ r) h = (refl, h)

before-opens : (p : ℕ → Bool) (l : List ℕ) → Opens (before p l) l
unfolding before
before-opens p [] = tt
before-opens p (b ∷ t) = go (p b) (before-opens p t)
  where
    go : (x : Bool) → Opens (before p t) t → Opens (cond x [] (b ∷ before p t)) (b ∷ t)
    go true h = tt
    go false h = (refl, h)

unclosed-opens : (l : List ℕ) → Opens (unclosed l) l
unfolding unclosed
unclosed-opens [] = tt
unclosed-opens (b ∷ []) = tt
unclosed-opens (b ∷ c ∷ t) = (refl, unclosed-opens (c ∷ t))

front-spans : (at : ℕ) (l : List ℕ) → Spans at (at + length l) (front_trimmed at l)
unfolding front_trimmed
front-spans at [] = (omega arith, omega arith)
front-spans at (b ∷ t) = go (is_blank b) (front-spans (suc at) t)
  where
    go : (x : Bool) → Spans (suc at) (suc at + length t) (front_trimmed (suc at) t)
        → Spans at (at + suc (length t)) (cond x (front_trimmed (suc at) t) (record { at = at; letters = b ∷ t }))
    go true h = (omega (arith, h.0), omega (arith, h.1))
    go false h = (omega arith, omega arith)

trim-spans : (p : Piece) → Spans p.at (p.at + length p.letters) (trimmed p)
unfolding trimmed
trim-spans p =
    let s = front-spans p.at (back_trimmed p.letters) in
    (s.0, omega (arith, s.1, opens-length (back_trimmed p.letters) p.letters (back-opens p.letters)))

unquote-spans : (at : ℕ) (l : List ℕ) → Spans at (at + length l) (unquoted (record { at = at; letters = l }))
unfolding unquoted opens_quote
unquote-spans at [] = (omega arith, omega arith)
unquote-spans at (b ∷ t) = go (opens_quote (b ∷ t) && closes t)
  where
    go : (x : Bool) → Spans at (at + suc (length t)) (cond x (trimmed (record { at = suc at; letters = unclosed t })) (record { at = at; letters = b ∷ t }))
    go true =
        let s = trim-spans (record { at = suc at; letters = unclosed t }) in
        (omega (arith, s.0), omega (arith, s.1, opens-length (unclosed t) t (unclosed-opens t)))
    go false = (omega arith, omega arith)

field-spans : (p : Piece) → Spans p.at (p.at + length p.letters) (field p)
unfolding field
field-spans p =
    let a = trim-spans p in
    let b = unquote-spans (trimmed p).at (trimmed p).letters in
    (omega (arith, a.0, b.0), omega (arith, a.1, b.1))

module _ (text : List ℕ) where
  front-lies : (at : ℕ) (l : List ℕ) → Opens l (drop at text) → Lies text (front_trimmed at l)
  unfolding front_trimmed
  front-lies at [] h = tt
  front-lies at (b ∷ t) h = go (is_blank b) (front-lies (suc at) t (opens-next text at b t h))
    where
      go : (x : Bool) → Lies text (front_trimmed (suc at) t) → Lies text (cond x (front_trimmed (suc at) t) (record { at = at; letters = b ∷ t }))
      go true g = g
      go false g = h

  trim-lies : (p : Piece) → Lies text p → Lies text (trimmed p)
  unfolding trimmed
  trim-lies p h = front-lies p.at (back_trimmed p.letters) (opens-trans (back_trimmed p.letters) p.letters (drop p.at text) (back-opens p.letters) h)

  unquote-lies : (at : ℕ) (l : List ℕ) → Opens l (drop at text) → Lies text (unquoted (record { at = at; letters = l }))
  unfolding unquoted opens_quote
  unquote-lies at [] h = tt
  unquote-lies at (b ∷ t) h = go (opens_quote (b ∷ t) && closes t)
    where
      go : (x : Bool) → Lies text (cond x (trimmed (record { at = suc at; letters = unclosed t })) (record { at = at; letters = b ∷ t }))
      go true = trim-lies (record { at = suc at; letters = unclosed t }) (opens-trans (unclosed t) t (drop (suc at) text) (unclosed-opens t) (opens-next text at b t h))
      go false = h

  field-lies : (p : Piece) → Lies text p → Lies text (field p)
  unfolding field
  field-lies p h = unquote-lies (trimmed p).at (trimmed p).letters (trim-lies p h)

  content-lies : (p : Piece) → Lies text p → Lies text (content p)
  unfolding content
  content-lies p h =
      trim-lies (record { at = p.at; letters = before (is_byte 35) p.letters })
      (opens-trans (before (is_byte 35) p.letters) p.letters (drop p.at text) (before-opens (is_byte 35) p.letters) h)

  -- ── A text in pieces ──

  abbrev Led : ℕ → List Piece → Type 0
  Led at [] = Unit {0}
  Led at (p ∷ ps) = (p.at ≡ at) × (Lies text p × All (Lies text) ps)

  led-all : (at : ℕ) (ps : List Piece) → Led at ps → All (Lies text) ps
  led-all at [] h = tt
  led-all at (p ∷ ps) h = h.1

  pieces-led : (q : ℕ → Bool) (at : ℕ) (l : List ℕ) → Opens l (drop at text) → Led at (pieces q at l)
  unfolding pieces cut grow
  pieces-led q at [] h = (refl, (tt, tt))
  pieces-led q at (b ∷ t) h = go (q b) (pieces q (suc at) t) (pieces-led q (suc at) t (opens-next text at b t h))
    where
      go : (x : Bool) (ps : List Piece) → Led (suc at) ps → Led at (cut x at b ps)
      go true ps g = (refl, (tt, led-all (suc at) ps g))
      go false [] g = tt
      go false (p ∷ ps) g = (refl, (opens-cons text at b t p.letters h (rw g.0 at g.1.0), g.1.1))

  pieces-lie : (q : ℕ → Bool) (at : ℕ) (l : List ℕ) → Opens l (drop at text) → All (Lies text) (pieces q at l)
  pieces-lie q at l h = led-all at (pieces q at l) (pieces-led q at l h)

  fields_lie : (ps : List Piece) → All (Lies text) ps → All (Lies text) (map field ps)
  fields_lie [] a = tt
  fields_lie (p ∷ ps) a = (field-lies p a.0, fields_lie ps a.1)

  full-lie : (ps : List Piece) → All (Lies text) ps → All (Lies text) (full ps)
  unfolding full unless
  full-lie [] a = tt
  full-lie (p ∷ ps) a = go (is_empty p.letters) (full-lie ps a.1)
    where
      go : (x : Bool) → All (Lies text) (full ps) → All (Lies text) (unless x p (full ps))
      go true g = g
      go false g = (a.0, g)

-- each piece begins where the one before it has ended
abbrev Spaced : ℕ → List Piece → Type 0
Spaced low [] = Unit {0}
Spaced low (p ∷ ps) = (low ≤ p.at) × Spaced (p.at + length p.letters) ps

spaced-low : (a b : ℕ) (ps : List Piece) → a ≤ b → Spaced b ps → Spaced a ps
spaced-low a b [] h s = tt
spaced-low a b (p ∷ ps) h s = (omega (arith, s.0), s.1)

pieces-spaced : (q : ℕ → Bool) (at : ℕ) (l : List ℕ) → Spaced at (pieces q at l)
unfolding pieces cut grow
pieces-spaced q at [] = (omega arith, tt)
pieces-spaced q at (b ∷ t) = go (q b) (pieces q (suc at) t) (pieces-spaced q (suc at) t)
  where
    go : (x : Bool) (ps : List Piece) → Spaced (suc at) ps → Spaced at (cut x at b ps)
    go true ps s = (omega arith, spaced-low (at + 0) (suc at) ps (omega arith) s)
    go false [] s = tt
    go false (p ∷ ps) s = (omega arith, spaced-low (at + suc (length p.letters)) (p.at + length p.letters) ps (omega (arith, s.0)) s.1)

-- pieces in the order of their places
abbrev Rising : ℕ → List Piece → Type 0
Rising low [] = Unit {0}
Rising low (p ∷ ps) = (low ≤ p.at) × Rising p.at ps

rising-low : (a b : ℕ) (ps : List Piece) → a ≤ b → Rising b ps → Rising a ps
rising-low a b [] h s = tt
rising-low a b (p ∷ ps) h s = (omega (arith, s.0), s.1)

fields-rise : (low : ℕ) (ps : List Piece) → Spaced low ps → Rising low (map field ps)
fields-rise low [] s = tt
fields-rise low (p ∷ ps) s =
    let f = field-spans p in
    (omega (arith, s.0, f.0), rising-low (field p).at (p.at + length p.letters) (map field ps) (omega (arith, f.1)) (fields-rise (p.at + length p.letters) ps s.1))

full-rise : (low : ℕ) (ps : List Piece) → Rising low ps → Rising low (full ps)
unfolding full unless
full-rise low [] s = tt
full-rise low (p ∷ ps) s = go (is_empty p.letters) (full-rise p.at ps s.1)
  where
    go : (x : Bool) → Rising p.at (full ps) → Rising low (unless x p (full ps))
    go true g = rising-low low p.at (full ps) s.0 g
    go false g = (s.0, g)

-- ── The fields of a line ──

-- a piece whose place is a byte of the text
abbrev pub Inside : List ℕ → Piece → Type 0
Inside text p = (p.at < length text) × Lies text p

some-letters : (l : List ℕ) → is_empty l ≡ false → 1 ≤ length l
unfolding is_empty
some-letters [] e = let z : ◌≡◌ {A = Bool} true false = e in let y : ◌≡◌ {A = ℕ} 0 1 = cc in absurd (omega arith)
some-letters (b ∷ t) e = omega arith

module _ (text : List ℕ) where
  end-inside : (low : ℕ) (ps : List Piece) → Rising low ps → All (Lies text) ps → Rising low (end_trimmed ps) × All (Inside text) (end_trimmed ps)
  unfolding end_trimmed keep_field
  end-inside low [] s a = (tt, tt)
  end-inside low (p ∷ ps) s a = go (end_trimmed ps) (end-inside p.at ps s.1 a.1)
    where
      last : (x : Bool) → is_empty p.letters ≡ x → Rising low (cond x [] (p ∷ [])) × All (Inside text) (cond x [] (p ∷ []))
      last true e = (tt, tt)
      last false e =
          let n = some-letters p.letters e in
          ((s.0, tt), ((omega (arith, n, opens-inside text p.at p.letters a.0 n), a.0), tt))

      go : (qs : List Piece) → Rising p.at qs × All (Inside text) qs → Rising low (keep_field p qs) × All (Inside text) (keep_field p qs)
      go [] g = last (is_empty p.letters) refl
      go (q ∷ qs) g = ((s.0, g.0), ((omega (arith, g.0.0, g.1.0.0), a.0), g.1))

  parted-inside : (x : Bool) (low : ℕ) (ps : List Piece) → Rising low ps → All (Lies text) ps → All (Inside text) (end_trimmed (cond x (full ps) ps))
  parted-inside true low ps r a = (end-inside low (full ps) (full-rise low ps r) (full-lie text ps a)).1
  parted-inside false low ps r a = (end-inside low ps r a).1

  by-inside : (s : ℕ) (p : Piece) → Lies text p → All (Inside text) (fields_by s p)
  unfolding fields_by parted
  by-inside s p h =
      let qs = pieces (is_byte s) p.at p.letters in
      parted-inside (eqb s 32) p.at (map field qs) (fields-rise p.at qs (pieces-spaced (is_byte s) p.at p.letters))
      (fields_lie text qs (pieces-lie text (is_byte s) p.at p.letters h))

  pub fields-inside : (p : Piece) → Lies text p → All (Inside text) (fields p)
  unfolding fields
  fields-inside p h = by-inside (separator (content p).letters) (content p) (content-lies text p h)

  pub lines-lie : (at : ℕ) → All (Lies text) (lines at (drop at text))
  unfolding lines
  lines-lie at = pieces-lie text ends_line at (drop at text) (opens-self (drop at text))
