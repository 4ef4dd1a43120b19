-- Texts cut into pieces, trimmed and parted: what happens to bytes that a test does not take.
-- Assumes nothing.
use Prim.Native.Nat.{ℕ, zero, suc, ◌+◌, ◌≤◌, ◌<◌}
use borrow.Author.Tests.{eq-eqb}
use lib.Dec.{eqb}
use lib.ListN.{length}
use mathlib.Core.Bool.{Bool, true, false, cond, ◌&&◌, ◌||◌}
use mathlib.Core.List.{List, [], ◌∷◌, ◌++◌, map}
use mathlib.Core.Path.{◌≡◌, refl, sym, ap, ◌∙◌, subst}
use native.Mathlib.Omega.{arith}
use Rattle.file_spec.specs.Pieces.{Piece, is_blank, is_byte, before, grow, cut, pieces, front_trimmed, keep, back_trimmed, trimmed, content, holds, separator, unquoted, opens_quote, field}
use Rattle.file_writer.specs.RoundTrip.{opens, closes}

-- no byte that the test takes
abbrev pub Free : (ℕ → Bool) → List ℕ → Type 0
Free p [] = Unit {0}
Free p (b ∷ t) = (p b ≡ false) × Free p t

-- at least one byte
abbrev pub Some : List ℕ → Type 0
Some [] = ⊥
Some (b ∷ t) = Unit {0}

pub free-append : (p : ℕ → Bool) (s t : List ℕ) → Free p s → Free p t → Free p (s ++ t)
free-append p [] t f g = g
free-append p (b ∷ s) t f g = (f.0, free-append p s t f.1 g)

-- a piece of a text
abbrev pub piece_of : ℕ → List ℕ → Piece
piece_of at l = record { at = at; letters = l }

pub pieces-first : (p : ℕ → Bool) (at : ℕ) (l : List ℕ) (b : ℕ) (rest : List ℕ) → Free p l → p b ≡ true
    → pieces p at (l ++ (b ∷ rest)) ≡ piece_of at l ∷ pieces p (suc (at + length l)) rest
unfolding pieces cut grow
pieces-first p at [] b rest f e =
    let z : at + 0 ≡ at = omega arith in
    rw (e, z)
pieces-first p at (x ∷ l) b rest f e =
    let z : suc at + length l ≡ at + suc (length l) = omega arith in
    rw (f.0, pieces-first p (suc at) l b rest f.1 e, z)

pub pieces-last : (p : ℕ → Bool) (at : ℕ) (l : List ℕ) → Free p l → pieces p at l ≡ piece_of at l ∷ []
unfolding pieces cut grow
pieces-last p at [] f = refl
pieces-last p at (x ∷ l) f = rw (f.0, pieces-last p (suc at) l f.1)

-- nothing to cut off
pub before-free : (p : ℕ → Bool) (l : List ℕ) → Free p l → before p l ≡ l
unfolding before
before-free p [] f = refl
before-free p (b ∷ t) f = rw (f.0, before-free p t f.1)

back-kept : (l : List ℕ) → closes is_blank l ≡ false → back_trimmed l ≡ l
unfolding back_trimmed keep closes
back-kept [] e = refl
back-kept (b ∷ []) e = rw e
back-kept (b ∷ c ∷ t) e = rw (back-kept (c ∷ t) e)

front_kept : (at : ℕ) (l : List ℕ) → opens is_blank l ≡ false → front_trimmed at l ≡ piece_of at l
unfolding front_trimmed opens
front_kept at [] e = refl
front_kept at (b ∷ t) e = rw e

pub trim-kept : (at : ℕ) (l : List ℕ) → opens is_blank l ≡ false → closes is_blank l ≡ false → trimmed (piece_of at l) ≡ piece_of at l
unfolding trimmed
trim-kept at l h g = rw (back-kept l g) (front_kept at l h)

pub content-kept : (at : ℕ) (l : List ℕ) → Free (is_byte 35) l → opens is_blank l ≡ false → closes is_blank l ≡ false → content (piece_of at l) ≡ piece_of at l
unfolding content
content-kept at l f h g = rw (before-free (is_byte 35) l f) (trim-kept at l h g)

eqb-self : (b : ℕ) → eqb b b ≡ true
eqb-self b = eq-eqb b b refl

pub holds-there : (b : ℕ) (s t : List ℕ) → holds b (s ++ (b ∷ t)) ≡ true
unfolding holds
holds-there b [] t = rw (eqb-self b)
holds-there b (c ∷ s) t = go (eqb c b) (holds-there b s t)
  where
    go : (x : Bool) → holds b (s ++ (b ∷ t)) ≡ true → (x || holds b (s ++ (b ∷ t))) ≡ true
    go true e = refl
    go false e = e

quoteless : (l : List ℕ) → opens (is_byte 34) l ≡ false → opens_quote l ≡ false
unfolding opens opens_quote is_byte
quoteless [] e = refl
quoteless (b ∷ t) e = e

-- a field as it is
pub field-kept : (at : ℕ) (l : List ℕ) → opens is_blank l ≡ false → closes is_blank l ≡ false → opens (is_byte 34) l ≡ false → field (piece_of at l) ≡ piece_of at l
unfolding field unquoted
field-kept at l h g q = rw (trim-kept at l h g, quoteless l q)

-- the ends of a text that is put together
pub opens-append : (p : ℕ → Bool) (s t : List ℕ) → Some s → opens p (s ++ t) ≡ opens p s
unfolding opens
opens-append p [] t f = absurd f
opens-append p (b ∷ s) t f = refl

pub closes-append : (p : ℕ → Bool) (s t : List ℕ) → Some t → closes p (s ++ t) ≡ closes p t
unfolding closes
closes-append p [] t f = refl
closes-append p (b ∷ []) (c ∷ t) f = refl
closes-append p (b ∷ []) [] f = absurd f
closes-append p (b ∷ c ∷ s) t f = closes-append p (c ∷ s) t f

pub some-append : (s t : List ℕ) → Some s → Some (s ++ t)
some-append [] t f = absurd f
some-append (b ∷ s) t f = tt

pub some_after : (s : List ℕ) (b : ℕ) (t : List ℕ) → Some (s ++ (b ∷ t))
some_after [] b t = tt
some_after (c ∷ s) b t = tt
