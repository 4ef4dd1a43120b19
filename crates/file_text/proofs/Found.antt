-- One turn of the search for a name among those met so far, and its end.
-- Assumes nothing.
use Prim.Native.Nat.{ℕ, zero, suc, ◌+◌, ◌-◌, ◌≤◌, ◌<◌}
use borrow.Author.Tests.{ne_eqb}
use lib.Dec.{eqb}
use lib.ListN.{get_or, length}
use lib.Pointwise.{pointwise}
use mathlib.Core.Bool.{Bool, true, false, ◌&&◌}
use mathlib.Core.List.{List, [], ◌∷◌}
use mathlib.Core.Path.{◌≡◌, refl, sym, ap}
use native.Mathlib.Numerals.{add-one}
use native.Mathlib.Omega.{arith}
use Rattle.file_spec.specs.Names.{equal, position}
use Rattle.file_text.specs.Steps.Spans.{part, names_from, names_of}

-- the same bytes, as std compares slices
pub equal-pointwise : (s t : List ℕ) → equal s t ≡ pointwise eqb s t
unfolding equal
equal-pointwise [] [] = refl
equal-pointwise [] (b ∷ t) = refl
equal-pointwise (a ∷ s) [] = refl
equal-pointwise (a ∷ s) (b ∷ t) = rw (equal-pointwise s t)

both : (x y : Bool) → y ≡ false → (x && y) ≡ false
both true y e = e
both false y e = refl

-- parts of different lengths are not equal
pub equal-lengths : (s t : List ℕ) → (length s ≡ length t → ⊥) → equal s t ≡ false
unfolding equal
equal-lengths [] [] n = absurd (n refl)
equal-lengths [] (b ∷ t) n = refl
equal-lengths (a ∷ s) [] n = refl
equal-lengths (a ∷ s) (b ∷ t) n = both (eqb a b) (equal s t) (equal-lengths s t (λ e. n (omega arith)))

-- parts that differ at a place are not equal
pub equal-stop : (s t : List ℕ) (k : ℕ) → (get_or s k 0 ≡ get_or t k 0 → ⊥) → equal s t ≡ false
unfolding equal
equal-stop [] [] k n = absurd (n refl)
equal-stop [] (b ∷ t) k n = refl
equal-stop (a ∷ s) [] k n = refl
equal-stop (a ∷ s) (b ∷ t) zero n = rw (ne_eqb a b n)
equal-stop (a ∷ s) (b ∷ t) (suc k) n = both (eqb a b) (equal s t) (equal-stop s t k n)

module _ (text starts ends : List ℕ) where
  names_more : (k n m : ℕ) → n ≡ suc m → names_from text starts ends k n ≡ part text (get_or starts k 0) (get_or ends k 0) ∷ names_from text starts ends (suc k) m
  unfolding names_from
  names_more k n m e = rw e

  pub names-length : (k n : ℕ) → length (names_from text starts ends k n) ≡ n
  unfolding names_from
  names-length k zero = refl
  names-length k (suc n) = ap suc (names-length (suc k) n)

  module _ (w : List ℕ) (count k : ℕ) (inv : position w (names_of text starts ends count) ≡ k + position w (names_from text starts ends k (count - k))) (h : k < count) (b : Bool) (t : b ≡ equal w (part text (get_or starts k 0) (get_or ends k 0))) where
    one : names_from text starts ends k (count - k) ≡ part text (get_or starts k 0) (get_or ends k 0) ∷ names_from text starts ends (suc k) (count - suc k)
    one = names_more k (count - k) (count - suc k) (omega arith)

    pub found_here : b ≡ true → k ≡ position w (names_of text starts ends count)
    unfolding position
    found_here q = let i = rw (one, sym t, q) at inv in omega arith

    pub found-later : b ≡ false → position w (names_of text starts ends count) ≡ (k + 1) + position w (names_from text starts ends (k + 1) (count - (k + 1)))
    unfolding position
    found-later q = let i = rw (one, sym t, q) at inv in rw (add-one k) (omega arith)

  pub found-start : (w : List ℕ) (count : ℕ) → position w (names_of text starts ends count) ≡ 0 + position w (names_from text starts ends 0 (count - 0))
  unfolding names_of
  found-start w count = let e : count - 0 ≡ count = omega arith in rw e (omega arith)

  pub found_none : (w : List ℕ) (count k : ℕ) → position w (names_of text starts ends count) ≡ k + position w (names_from text starts ends k (count - k)) → k ≤ count → count ≤ k
      → count ≡ position w (names_of text starts ends count)
  unfolding position names_from
  found_none w count k inv b h = let e : count - k ≡ 0 = omega arith in let i = rw e at inv in omega arith
