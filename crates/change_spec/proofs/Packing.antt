-- Laws of packing: the elements that are kept of a list, the length of a packed column, and the last row of a set.
-- Assumes nothing.
use Prim.Native.Nat.{ℕ, zero, suc, ◌+◌, ◌/◌, ◌<◌, ◌≤◌}
use mathlib.Core.Bool.{Bool, true, false, cond}
use mathlib.Core.List.{List, [], ◌∷◌, ◌++◌}
use mathlib.Core.Path.{◌≡◌, sym, ap, ◌∙◌}
use native.Mathlib.Nat.{add-zero, zero-add}
use native.Mathlib.Omega.{arith}
use lib.ListN.{length, get_or, take, length-append, length-replicate}
use lib.Seq.{take-suc, length-take-le}
use Rattle.change_spec.specs.Packing.{kept_from, kept_rows, packed, lowermost}

module _ (p : ℕ → Bool) where
  -- what is kept of two lists, one after the other
  pub kept_append : (i : ℕ) (l m : List ℕ) → kept_from p i (l ++ m) ≡ kept_from p i l ++ kept_from p (i + length l) m
  unfolding kept_from
  kept_append i [] m = ap (λ k. kept_from p k m) (sym (add-zero i))
  kept_append i (x ∷ l) m = go (p i) (kept_append (suc i) l m ∙ ap (λ k. kept_from p (suc i) l ++ kept_from p k m) (omega arith))
    where
      go : (b : Bool) → kept_from p (suc i) (l ++ m) ≡ kept_from p (suc i) l ++ kept_from p (i + suc (length l)) m
          → cond b (x ∷ kept_from p (suc i) (l ++ m)) (kept_from p (suc i) (l ++ m)) ≡ cond b (x ∷ kept_from p (suc i) l) (kept_from p (suc i) l) ++ kept_from p (i + suc (length l)) m
      go true e = ap (λ r. x ∷ r) e
      go false e = e

  -- one element more
  pub kept-suc : (l : List ℕ) (b : ℕ) → b < length l → kept_from p 0 (take (suc b) l) ≡ kept_from p 0 (take b l) ++ cond (p b) (get_or l b 0 ∷ []) []
  unfolding kept_from
  kept-suc l b h =
      ap (kept_from p 0) (take-suc l b 0 h)
      ∙ kept_append 0 (take b l) (get_or l b 0 ∷ [])
      ∙ rw (zero-add, length-take-le b l (omega arith))

-- what is kept of a list is no longer than the list
kept-length : (p : ℕ → Bool) (i : ℕ) (l : List ℕ) → length (kept_from p i l) ≤ length l
unfolding kept_from
kept-length p i [] = omega arith
kept-length p i (x ∷ l) = go (p i) (kept-length p (suc i) l)
  where
    go : (b : Bool) → length (kept_from p (suc i) l) ≤ length l → length (cond b (x ∷ kept_from p (suc i) l) (kept_from p (suc i) l)) ≤ suc (length l)
    go true h = omega arith
    go false h = omega arith

-- a packed column has the length that it had
pub packed-length : (X : ℕ → Bool) (k : ℕ) (l : List ℕ) → length (packed X k l) ≡ length l
unfolding packed kept_rows
packed-length X k l = simp (length-append, length-replicate) (omega (arith, kept-length (λ b. X (b / k + 1)) 0 l))

-- the last row of 1 to m is at most m, and below it where row m does not belong
pub lowermost-most : (m : ℕ) (p : ℕ → Bool) → lowermost m p ≤ m
unfolding lowermost
lowermost-most zero p = omega arith
lowermost-most (suc m) p = go (p (suc m)) (lowermost-most m p)
  where
    go : (b : Bool) → lowermost m p ≤ m → cond b (suc m) (lowermost m p) ≤ suc m
    go true h = omega arith
    go false h = omega arith

pub lowermost-below : (m : ℕ) (p : ℕ → Bool) → p (suc m) ≡ false → lowermost (suc m) p < suc m
unfolding lowermost
lowermost-below m p e = rw e (omega (arith, lowermost-most m p))
