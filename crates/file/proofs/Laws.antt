-- Laws of the byte order mark, of the number of junctions, and of the rows in use. Assumes nothing.
use Prim.Native.Nat.{ℕ, zero, suc, ◌+◌, ◌-◌, ◌≤◌, ◌<◌, max}
use borrow.Author.Tests.{eq-eqb, ne_eqb, eqb-true, eqb-false, le-leb, lt-leb, lt-ltb, le-ltb, ltb-true, ltb-false}
use lib.Dec.{eqb, leb, ltb}
use lib.ListN.{length, take, drop, get_or, length-drop, drop_of_length-le}
use lib.Pointwise.{pointwise}
use lib.Seq.{drop-cons, take_all}
use mathlib.Core.Bool.{Bool, true, false, not, ◌&&◌, false≢true}
use mathlib.Core.List.{List, [], ◌∷◌, map}
use mathlib.Core.Path.{◌≡◌, refl, sym, ap, ◌∙◌, fun_ext}
use native.Mathlib.Numerals.{add-one}
use native.Mathlib.Omega.{arith}
use Rattle.rowset.specs.Sets.{up_to, both, without}
use Rattle.slice.specs.Slices.{size}
use Rattle.star_spec.proofs.Claims.{marked-byte}
use Rattle.claim.specs.Claims.{claim_rows}
use Rattle.file_spec.specs.Names.{equal}
use Rattle.file_spec.specs.Pieces.{lines}
use Rattle.file_spec.specs.Reader.{broken, opens_marked, body_at, largest, nothing_read, read_text, read_lines}
use Rattle.file_spec.specs.Table.{bounded, reading, unstruck}
use Rattle.file_text.specs.Steps.Spans.{part}
use Rattle.file_reader.specs.Steps.State.{is_one}

-- ── The byte order mark ──

and_none : (x : Bool) → (x && false) ≡ false
and_none true = refl
and_none false = refl

-- the same bytes, as std compares them
flipped : (a b : ℕ) → eqb a b ≡ eqb b a
flipped a b = go (eqb b a) refl
  where
    go : (x : Bool) → eqb b a ≡ x → eqb a b ≡ x
    go true e = eq-eqb a b (sym (eqb-true b a e))
    go false e = ne_eqb a b (λ q. eqb-false b a e (sym q))

same-bytes : (s t : List ℕ) → equal s t ≡ pointwise eqb t s
unfolding equal
same-bytes [] [] = refl
same-bytes [] (b ∷ t) = refl
same-bytes (a ∷ s) [] = refl
same-bytes (a ∷ s) (b ∷ t) = rw (flipped a b, same-bytes s t)

pub same-opening : (text : List ℕ) → pointwise eqb (239 ∷ 187 ∷ 191 ∷ []) (take 3 text) ≡ opens_marked text
unfolding opens_marked
same-opening text = sym (same-bytes (take 3 text) (239 ∷ 187 ∷ 191 ∷ []))

pub opens-short : (text : List ℕ) → length text < 3 → opens_marked text ≡ false
unfolding opens_marked equal
opens-short [] h = refl
opens-short (a ∷ []) h = and_none (eqb a 239)
opens-short (a ∷ b ∷ []) h = ap (λ x. eqb a 239 && x) (and_none (eqb b 187)) ∙ and_none (eqb a 239)
opens-short (a ∷ b ∷ c ∷ t) h = absurd (omega arith)

pub marked-long : (text : List ℕ) → opens_marked text ≡ true → 3 ≤ length text
marked-long text e = go (ltb (length text) 3) refl
  where
    go : (x : Bool) → ltb (length text) 3 ≡ x → 3 ≤ length text
    go true h = absurd (false≢true (sym (opens-short text (ltb-true (length text) 3 h)) ∙ e))
    go false h = omega (arith, ltb-false (length text) 3 h)

-- ── A whole text ──

pub whole : (text : List ℕ) (at : ℕ) → at ≤ length text → part text at (length text) ≡ drop at text
unfolding part
whole text at h = take_all (length text - at) (drop at text) (omega (arith, length-drop at text))

pub too_long : (text : List ℕ) → 16777216 < length text → reading text ≡ broken 12 16777216
unfolding reading bounded
too_long text h = rw (lt-ltb 16777216 (length text) h)

pub taken-whole : (text : List ℕ) (from : ℕ) → length text ≤ 16777216 → from ≡ body_at text → from ≤ length text
    → reading text ≡ read_lines nothing_read (lines from (part text from (length text)))
unfolding reading bounded read_text
taken-whole text from h e b = rw (le-ltb 16777216 (length text) h, whole text from b, e)

-- ── The largest byte ──

pub largest-start : (l : List ℕ) → largest l ≡ max 0 (largest (drop 0 l))
largest-start l = omega arith

largest-more : (l : List ℕ) (k : ℕ) → k < length l → largest (drop k l) ≡ max (get_or l k 0) (largest (drop (k + 1) l))
unfolding largest
largest-more l k h = rw (drop-cons l k 0 h, add-one k)

pub largest-turn : (l : List ℕ) (k most next : ℕ) → k < length l → next ≡ max most (get_or l k 0) → largest l ≡ max most (largest (drop k l)) → largest l ≡ max next (largest (drop (k + 1) l))
largest-turn l k most next h e i = i ∙ ap (λ (x : ℕ). max most x) (largest-more l k h) ∙ (rw e (omega arith))

pub largest-end : (l : List ℕ) (k most : ℕ) → length l ≤ k → largest l ≡ max most (largest (drop k l)) → most ≡ largest l
unfolding largest
largest-end l k most h i = let e : drop k l ≡ [] = drop_of_length-le l h in sym (i ∙ (rw e (omega arith)))

-- ── The rows in use ──

struck-in : (l : List ℕ) (m i : ℕ) → m ≤ length l → i < m → get_or (map is_one (take m l)) i true ≡ eqb (get_or l i 0) 1
unfolding is_one
struck-in l zero i h g = absurd (omega arith)
struck-in [] (suc m) i h g = absurd (omega arith)
struck-in (b ∷ t) (suc m) zero h g = refl
struck-in (b ∷ t) (suc m) (suc i) h g = struck-in t m i (omega arith) (omega arith)

struck-out : (l : List ℕ) (m i : ℕ) → m ≤ i → get_or (map is_one (take m l)) i true ≡ true
struck-out l zero i h = refl
struck-out [] (suc m) i h = refl
struck-out (b ∷ t) (suc m) zero h = absurd (omega arith)
struck-out (b ∷ t) (suc m) (suc i) h = struck-out t m i (omega arith)

outside : (x y : Bool) → ((x && false) && not ((x && false) && y)) ≡ false
outside true y = refl
outside false y = refl

module _ (l : List ℕ) (m : ℕ) (h : length l ≡ 1024) (g : m ≤ 1024) where
  abbrev pub rows : ℕ → Bool
  rows = both (up_to size) (up_to m)

  in-use-at : (i : ℕ) → without rows (both rows (claim_rows l)) i ≡ unstruck (map is_one (take m l)) i
  unfolding without both up_to unstruck claim_rows
  in-use-at zero = refl
  in-use-at (suc j) = go (ltb j m) refl
    where
      some : leb 1 (suc j) ≡ true
      some = le-leb 1 (suc j) (omega arith)

      fits : leb (length l) 1024 ≡ true
      fits = le-leb (length l) 1024 (omega arith)

      go : (x : Bool) → ltb j m ≡ x → without rows (both rows (claim_rows l)) (suc j) ≡ unstruck (map is_one (take m l)) (suc j)
      go true e =
          let f : j < m = ltb-true j m e in
          rw (some, le-leb (suc j) 1024 (omega arith), le-leb (suc j) m (omega arith), fits, marked-byte l j, struck-in l m j (omega arith) f)
      go false e =
          let f : m ≤ j = ltb-false j m e in
          rw (some, lt-leb (suc j) m (omega arith), struck-out l m j f) (outside (leb (suc j) 1024) _)

  pub in_use : without rows (both rows (claim_rows l)) ≡ unstruck (map is_one (take m l))
  in_use = fun_ext in-use-at
