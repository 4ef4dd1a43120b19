-- What the first place of a byte says of the bytes before it, of the separator, and of the pieces. Assumes nothing.
use Prim.Native.Nat.{ℕ, zero, suc, ◌+◌, ◌-◌, ◌≤◌, ◌<◌}
use borrow.Author.Tests.{lt-ltb, le-ltb}
use lib.Dec.{eqb, ltb}
use lib.ListN.{length, take, drop}
use lib.Seq.{take-take, take-nil, drop-drop}
use mathlib.Core.Bool.{Bool, true, false, cond, ◌||◌}
use mathlib.Core.List.{List, [], ◌∷◌}
use mathlib.Core.Path.{◌≡◌, refl, sym, ap, ◌∙◌}
use native.Mathlib.Omega.{arith}
use Rattle.file_spec.specs.Pieces.{Piece, is_byte, first_at, before, holds, grow, cut, pieces, trimmed, content}
use Rattle.file_text.specs.Steps.Spans.{part, piece_at}
use Rattle.file_text.proofs.Parts.{part_length}

module _ (p : ℕ → Bool) where
  pub first-low : (at : ℕ) (l : List ℕ) → at ≤ first_at p at l
  unfolding first_at
  first-low at [] = omega arith
  first-low at (b ∷ t) = go (p b) (first-low (suc at) t)
    where
      go : (x : Bool) → suc at ≤ first_at p (suc at) t → at ≤ cond x at (first_at p (suc at) t)
      go true h = omega arith
      go false h = omega arith

  pub first-high : (at : ℕ) (l : List ℕ) → first_at p at l ≤ at + length l
  unfolding first_at
  first-high at [] = omega arith
  first-high at (b ∷ t) = go (p b) (first-high (suc at) t)
    where
      go : (x : Bool) → first_at p (suc at) t ≤ suc at + length t → cond x at (first_at p (suc at) t) ≤ at + suc (length t)
      go true h = omega arith
      go false h = omega arith

  pub before-take : (at : ℕ) (l : List ℕ) → before p l ≡ take (first_at p at l - at) l
  unfolding first_at before
  before-take at [] = sym (take-nil (at - at))
  before-take at (b ∷ t) = go (p b) (before-take (suc at) t)
    where
      go : (x : Bool) → before p t ≡ take (first_at p (suc at) t - suc at) t → cond x [] (b ∷ before p t) ≡ take (cond x at (first_at p (suc at) t) - at) (b ∷ t)
      go true h = let e : at - at ≡ 0 = omega arith in rw e
      go false h =
          let e : first_at p (suc at) t - at ≡ suc (first_at p (suc at) t - suc at) = omega (arith, first-low (suc at) t) in
          rw e (ap {B = List ℕ} (λ l. b ∷ l) h)

  pub pieces-last : (at : ℕ) (l : List ℕ) → first_at p at l ≡ at + length l → pieces p at l ≡ record { at = at; letters = l } ∷ []
  unfolding first_at pieces cut grow
  pieces-last at [] e = refl
  pieces-last at (b ∷ t) e = go (p b) (λ h. pieces-last (suc at) t h) e
    where
      go : (x : Bool) → (first_at p (suc at) t ≡ suc at + length t → pieces p (suc at) t ≡ record { at = suc at; letters = t } ∷ [])
          → cond x at (first_at p (suc at) t) ≡ at + suc (length t) → cut x at b (pieces p (suc at) t) ≡ record { at = at; letters = b ∷ t } ∷ []
      go true ih e = absurd (omega arith)
      go false ih e = rw (ih (omega arith))

  pub pieces_more : (at : ℕ) (l : List ℕ) (r : ℕ) → first_at p at l ≡ r → r < at + length l
      → pieces p at l ≡ record { at = at; letters = take (r - at) l } ∷ pieces p (suc r) (drop (suc r - at) l)
  unfolding first_at pieces cut grow
  pieces_more at [] r e h = absurd (omega arith)
  pieces_more at (b ∷ t) r e h = go (p b) (λ g k. pieces_more (suc at) t r g k) e
    where
      go : (x : Bool)
          → (first_at p (suc at) t ≡ r → r < suc at + length t → pieces p (suc at) t ≡ record { at = suc at; letters = take (r - suc at) t } ∷ pieces p (suc r) (drop (suc r - suc at) t))
          → cond x at (first_at p (suc at) t) ≡ r
          → cut x at b (pieces p (suc at) t) ≡ record { at = at; letters = take (r - at) (b ∷ t) } ∷ pieces p (suc r) (drop (suc r - at) (b ∷ t))
      go true ih e =
          let a : r - at ≡ 0 = omega arith in
          let d : suc r - at ≡ 1 = omega arith in
          let q : r ≡ at = omega arith in
          rw (a, d, q)
      go false ih e =
          let l : suc at ≤ r = omega (arith, first-low (suc at) t) in
          let a : r - at ≡ suc (r - suc at) = omega arith in
          let d : suc r - at ≡ suc (suc r - suc at) = omega arith in
          rw (a, d, ih e (omega arith))

-- whether a list holds a byte
pub holds-first : (b at : ℕ) (l : List ℕ) → holds b l ≡ ltb (first_at (is_byte b) at l) (at + length l)
unfolding holds first_at is_byte
holds-first b at [] = sym (le-ltb at (at + 0) (omega arith))
holds-first b at (c ∷ t) = go (eqb c b) (holds-first b (suc at) t)
  where
    go : (x : Bool) → holds b t ≡ ltb (first_at (is_byte b) (suc at) t) (suc at + length t) → (x || holds b t) ≡ ltb (cond x at (first_at (is_byte b) (suc at) t)) (at + suc (length t))
    go true h = sym (lt-ltb at (at + suc (length t)) (omega arith))
    go false h = let e : at + suc (length t) ≡ suc at + length t = omega arith in rw e h

pub drop-take : (n m k : ℕ) (l : List ℕ) → k ≡ n + m → drop n (take k l) ≡ take m (drop n l)
drop-take zero m k l e = let q : k ≡ m = omega arith in rw q
drop-take (suc n) m k [] e = rw (take-nil k, take-nil m)
drop-take (suc n) m k (x ∷ xs) e = let q : k ≡ suc (k - 1) = omega arith in rw q (drop-take n m (k - 1) xs (omega arith))

module _ (text : List ℕ) (from to : ℕ) (h : from ≤ to) (k : to ≤ length text) where
  -- the bytes before the first
  pub before-part : (p : ℕ → Bool) (r : ℕ) → r ≡ first_at p from (part text from to) → r ≤ to → before p (part text from to) ≡ part text from r
  unfolding part
  before-part p r e b = before-take p from (part text from to) ∙ (rw (← e) (take-take (r - from) (to - from) (drop from text) (omega arith)))

  -- the pieces of a part
  pub part-last : (p : ℕ → Bool) (r : ℕ) → r ≡ first_at p from (part text from to) → r ≡ to → pieces p from (part text from to) ≡ piece_at text from to ∷ []
  unfolding piece_at
  part-last p r e b = pieces-last p from (part text from to) (omega (arith, part_length text from to h k))

  drop-part : (n : ℕ) → from + n ≤ to → drop n (part text from to) ≡ part text (from + n) to
  unfolding part
  drop-part n g =
      let e : to - from ≡ n + (to - (from + n)) = omega arith in
      drop-take n (to - (from + n)) (to - from) (drop from text) e ∙ ap (take (to - (from + n))) (drop-drop n from text)

  pub part-more : (p : ℕ → Bool) (r : ℕ) → r ≡ first_at p from (part text from to) → r < to
      → pieces p from (part text from to) ≡ piece_at text from r ∷ pieces p (r + 1) (part text (r + 1) to)
  unfolding piece_at part
  part-more p r e b =
      let l : from ≤ r = omega (arith, first-low p from (part text from to)) in
      let s : r + 1 ≡ suc r = omega arith in
      let n : from + (suc r - from) ≡ suc r = omega arith in
      pieces_more p from (part text from to) r (sym e) (omega (arith, part_length text from to h k))
      ∙ (rw (s, take-take (r - from) (to - from) (drop from text) (omega arith), drop-part (suc r - from) (omega arith), n))

  -- whether a byte is there
  pub holds-part : (b r : ℕ) → r ≡ first_at (is_byte b) from (part text from to) → holds b (part text from to) ≡ ltb r to
  holds-part b r e = let n : from + length (part text from to) ≡ to = omega (arith, part_length text from to h k) in holds-first b from (part text from to) ∙ (rw (n, e))

pub content-made : (text : List ℕ) (from to e : ℕ) (q : Piece) → before (is_byte 35) (part text from to) ≡ part text from e → q ≡ trimmed (piece_at text from e)
    → q ≡ content (piece_at text from to)
unfolding content piece_at
content-made text from to e q b t = rw b t
