-- Laws of the names met so far: one more, and what equal means. Assumes nothing.
use Prim.Native.Nat.{ℕ, zero, suc, ◌+◌, ◌≤◌, ◌<◌, max}
use borrow.Author.Tests.{eqb-true, ltb-true, ltb-false, lt-ltb, le-ltb, eq-eqb}
use lib.Dec.{eqb, ltb}
use lib.ListN.{length, take, get_or, set}
use lib.Seq.{get_or-set_same, get_or-set_other, take-suc-set}
use mathlib.Core.Bool.{Bool, true, false, cond, ◌&&◌, false≢true}
use mathlib.Core.List.{List, [], ◌∷◌, ◌++◌}
use mathlib.Core.Path.{◌≡◌, refl, sym, ap, ◌∙◌}
use native.Mathlib.Omega.{arith}
use Rattle.file_spec.specs.Names.{equal, position, met, met_at}
use Rattle.file_text.specs.Steps.Spans.{part, names_from, names_of, Within}
use Rattle.file_text.proofs.Found.{names-length}

-- equal bytes, both ways
pub equal-self : (w : List ℕ) → equal w w ≡ true
unfolding equal
equal-self [] = refl
equal-self (b ∷ t) = rw (eq-eqb b b refl) (equal-self t)

pub equal-same : (s t : List ℕ) → equal s t ≡ true → s ≡ t
unfolding equal
equal-same [] [] e = refl
equal-same [] (b ∷ t) e = absurd (false≢true e)
equal-same (a ∷ s) [] e = absurd (false≢true e)
equal-same (a ∷ s) (b ∷ t) e = go (eqb a b) refl e (λ h. equal-same s t h)
  where
    go : (x : Bool) → eqb a b ≡ x → (x && equal s t) ≡ true → (equal s t ≡ true → s ≡ t) → a ∷ s ≡ b ∷ t
    go true h f ih = rw (eqb-true a b h, ih f)
    go false h f ih = absurd (false≢true f)

-- the position of a name among names
pub position-high : (w : List ℕ) (ns : List (List ℕ)) → position w ns ≤ length ns
unfolding position
position-high w [] = omega arith
position-high w (n ∷ ns) = go (equal w n) (position-high w ns)
  where
    go : (x : Bool) → position w ns ≤ length ns → cond x 0 (suc (position w ns)) ≤ suc (length ns)
    go true h = omega arith
    go false h = omega arith

-- after it is met, a name is at the position at which it was found or added
pub position-added : (w : List ℕ) (ns : List (List ℕ)) → position w (ns ++ (w ∷ [])) ≡ position w ns
unfolding position
position-added w [] = rw (equal-self w)
position-added w (n ∷ ns) = rw (position-added w ns)

pub position-met : (w : List ℕ) (ns : List (List ℕ)) → position w (met w ns) ≡ position w ns
unfolding met
position-met w ns = go (ltb (position w ns) (length ns))
  where
    go : (x : Bool) → position w (cond x ns (ns ++ (w ∷ []))) ≡ position w ns
    go true = refl
    go false = position-added w ns

-- a name that is met keeps its position when others are met
position-more : (w v : List ℕ) (ns : List (List ℕ)) → position w ns < length ns → position w (ns ++ (v ∷ [])) ≡ position w ns
unfolding position
position-more w v [] h = absurd (omega arith)
position-more w v (n ∷ ns) h = go (equal w n) h (λ g. position-more w v ns g)
  where
    go : (x : Bool) → cond x 0 (suc (position w ns)) < suc (length ns) → (position w ns < length ns → position w (ns ++ (v ∷ [])) ≡ position w ns)
        → cond x 0 (suc (position w (ns ++ (v ∷ [])))) ≡ cond x 0 (suc (position w ns))
    go true h ih = refl
    go false h ih = rw (ih (omega arith))

pub position-kept : (w v : List ℕ) (ns : List (List ℕ)) → position w ns < length ns → position w (met v ns) ≡ position w ns
unfolding met
position-kept w v ns h = go (ltb (position v ns) (length ns))
  where
    go : (x : Bool) → position w (cond x ns (ns ++ (v ∷ []))) ≡ position w ns
    go true = refl
    go false = position-more w v ns h

-- two names of which one is met have the same position exactly where they are the same bytes
pub position-tells : (w v : List ℕ) (ns : List (List ℕ)) → position w ns < length ns → position w ns ≡ position v ns → w ≡ v
unfolding position
position-tells w v [] h e = absurd (omega arith)
position-tells w v (n ∷ ns) h e = go (equal w n) (equal v n) refl refl h e (λ g f. position-tells w v ns g f)
  where
    go : (x y : Bool) → equal w n ≡ x → equal v n ≡ y → cond x 0 (suc (position w ns)) < suc (length ns) → cond x 0 (suc (position w ns)) ≡ cond y 0 (suc (position v ns))
        → (position w ns < length ns → position w ns ≡ position v ns → w ≡ v) → w ≡ v
    go true true p q h e ih = equal-same w n p ∙ sym (equal-same v n q)
    go true false p q h e ih = absurd (omega arith)
    go false true p q h e ih = absurd (omega arith)
    go false false p q h e ih = ih (omega arith) (omega arith)

module _ (text : List ℕ) where
  names-agree : (s e s' e' : List ℕ) (k n : ℕ) → ((i : ℕ) → i < k + n → (get_or s' i 0 ≡ get_or s i 0) × (get_or e' i 0 ≡ get_or e i 0)) → names_from text s' e' k n ≡ names_from text s e k n
  unfolding names_from
  names-agree s e s' e' k zero h = refl
  names-agree s e s' e' k (suc n) h =
      rw ((h k (omega arith)).0, (h k (omega arith)).1, names-agree s e s' e' (suc k) n (λ i g. h i (omega arith)))

  names-snoc : (s e : List ℕ) (k n : ℕ) → names_from text s e k (suc n) ≡ names_from text s e k n ++ (part text (get_or s (k + n) 0) (get_or e (k + n) 0) ∷ [])
  unfolding names_from
  names-snoc s e k zero = let q : k + 0 ≡ k = omega arith in rw q
  names-snoc s e k (suc n) = let q : k + suc n ≡ suc k + n = omega arith in rw q (ap {B = List (List ℕ)} (λ r. part text (get_or s k 0) (get_or e k 0) ∷ r) (names-snoc s e (suc k) n))

  module _ (starts ends : List ℕ) (ls : length starts ≡ 255) (le : length ends ≡ 255) (count from to : ℕ) where
    pub met-old : (k : ℕ) → k ≡ position (part text from to) (names_of text starts ends count) → k < count
        → names_of text starts ends (max count (k + 1)) ≡ met (part text from to) (names_of text starts ends count)
    unfolding met names_of
    met-old k e h =
        let m : max count (k + 1) ≡ count = omega arith in
        let l : ltb (position (part text from to) (names_from text starts ends 0 count)) (length (names_from text starts ends 0 count)) ≡ true = lt-ltb (position (part text from to) (names_from text starts ends 0 count)) (length (names_from text starts ends 0 count)) (omega (arith, e, names-length text starts ends 0 count)) in
        rw (m, l)

    pub met-new : (k : ℕ) → k ≡ position (part text from to) (names_of text starts ends count) → count ≤ k → k ≤ count → k < 255
        → names_of text (set starts k from) (set ends k to) (max count (k + 1)) ≡ met (part text from to) (names_of text starts ends count)
    unfolding met names_of
    met-new k e h g f =
        let m : max count (k + 1) ≡ suc count = omega arith in
        let q : k ≡ count = omega arith in
        let z : 0 + count ≡ count = omega arith in
        let l : ltb (position (part text from to) (names_from text starts ends 0 count)) (length (names_from text starts ends 0 count)) ≡ false = le-ltb (position (part text from to) (names_from text starts ends 0 count)) (length (names_from text starts ends 0 count)) (omega (arith, e, names-length text starts ends 0 count)) in
        rw (
          m,
          l,
          names-snoc (set starts k from) (set ends k to) 0 count,
          z,
          q,
          get_or-set_same starts count from 0 (omega arith),
          get_or-set_same ends count to 0 (omega arith),
          names-agree starts ends (set starts count from) (set ends count to) 0 count (λ i b. (get_or-set_other starts count i from 0 (λ x. omega arith), get_or-set_other ends count i to 0 (λ x. omega arith))),
        )

    pub place-old : (k : ℕ) → k ≡ position (part text from to) (names_of text starts ends count) → k < count
        → take (max count (k + 1)) starts ≡ met_at from (part text from to) (names_of text starts ends count) (take count starts)
    unfolding met_at names_of
    place-old k e h =
        let m : max count (k + 1) ≡ count = omega arith in
        let l : ltb (position (part text from to) (names_from text starts ends 0 count)) (length (names_from text starts ends 0 count)) ≡ true = lt-ltb (position (part text from to) (names_from text starts ends 0 count)) (length (names_from text starts ends 0 count)) (omega (arith, e, names-length text starts ends 0 count)) in
        rw (m, l)

    pub place-new : (k : ℕ) → k ≡ position (part text from to) (names_of text starts ends count) → count ≤ k → k ≤ count → k < 255
        → take (max count (k + 1)) (set starts k from) ≡ met_at from (part text from to) (names_of text starts ends count) (take count starts)
    unfolding met_at names_of
    place-new k e h g f =
        let m : max count (k + 1) ≡ suc count = omega arith in
        let q : k ≡ count = omega arith in
        let l : ltb (position (part text from to) (names_from text starts ends 0 count)) (length (names_from text starts ends 0 count)) ≡ false = le-ltb (position (part text from to) (names_from text starts ends 0 count)) (length (names_from text starts ends 0 count)) (omega (arith, e, names-length text starts ends 0 count)) in
        rw (m, l, q) (take-suc-set starts count from (omega arith))

    pub within_new : (k : ℕ) → Within text starts ends count → count ≤ k → k ≤ count → k < 255 → from ≤ to → to ≤ length text
        → Within text (set starts k from) (set ends k to) (max count (k + 1))
    within_new k w h g f b t =
        record {
          order = λ i l. (each i (ltb i count) refl (omega arith)).0;
          high = λ i l. (each i (ltb i count) refl (omega arith)).1;
        }
      where
        each : (i : ℕ) (x : Bool) → ltb i count ≡ x → i ≤ k → (get_or (set starts k from) i 0 ≤ get_or (set ends k to) i 0) × (get_or (set ends k to) i 0 ≤ length text)
        each i true e l =
            let n : i < count = ltb-true i count e in
            rw (get_or-set_other starts k i from 0 (λ x. omega arith), get_or-set_other ends k i to 0 (λ x. omega arith)) (w.order i n, w.high i n)
        each i false e l =
            let n : i ≡ k = omega (arith, ltb-false i count e) in
            rw (n, get_or-set_same starts k from 0 (omega arith), get_or-set_same ends k to 0 (omega arith)) (b, t)

    pub within-old : (k : ℕ) → Within text starts ends count → k < count → Within text starts ends (max count (k + 1))
    within-old k w h = let m : max count (k + 1) ≡ count = omega arith in rw m w
