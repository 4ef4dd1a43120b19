-- Laws of parts of a text: one byte more in front or behind, and the search for a byte. Assumes nothing.
use Prim.Native.Nat.{ℕ, suc, ◌+◌, ◌-◌, ◌≤◌, ◌<◌}
use lib.ListN.{length, drop, get_or, length-take, length-drop}
use lib.Seq.{drop-cons, take-suc, get_or-drop}
use mathlib.Core.Bool.{Bool, true, false}
use mathlib.Core.List.{List, [], ◌∷◌, ◌++◌}
use mathlib.Core.Path.{◌≡◌}
use native.Mathlib.Numerals.{add-one}
use native.Mathlib.Omega.{arith}
use Rattle.file_spec.specs.Pieces.{first_at}
use Rattle.file_text.specs.Steps.Spans.{part}

module _ (text : List ℕ) where
  pub part-empty : (i t : ℕ) → t ≤ i → part text i t ≡ []
  unfolding part
  part-empty i t h = let e : t - i ≡ 0 = omega arith in rw e

  pub part-cons : (i t : ℕ) → i < t → t ≤ length text → part text i t ≡ get_or text i 0 ∷ part text (suc i) t
  unfolding part
  part-cons i t h k = let e : t - i ≡ suc (t - suc i) = omega arith in rw (e, drop-cons text i 0 (omega arith))

  pub part-snoc : (i t : ℕ) → i ≤ t → t < length text → part text i (suc t) ≡ part text i t ++ (get_or text t 0 ∷ [])
  unfolding part
  part-snoc i t h k =
      let e : suc t - i ≡ suc (t - i) = omega arith in
      let f : i + (t - i) ≡ t = omega arith in
      rw (e, take-suc (drop i text) (t - i) 0 (omega (arith, length-drop i text)), get_or-drop i text (t - i) 0, f)

  pub part_length : (i t : ℕ) → i ≤ t → t ≤ length text → length (part text i t) ≡ t - i
  unfolding part
  part_length i t h k = omega (arith, length-take (t - i) (drop i text), length-drop i text)

  module _ (p : ℕ → Bool) (i t : ℕ) where
    pub first-stop : i < t → t ≤ length text → p (get_or text i 0) ≡ true → first_at p i (part text i t) ≡ i
    unfolding first_at
    first-stop h k e = rw (part-cons i t h k, e)

    pub first_more : i < t → t ≤ length text → p (get_or text i 0) ≡ false → first_at p i (part text i t) ≡ first_at p (i + 1) (part text (i + 1) t)
    unfolding first_at
    first_more h k e = rw (add-one i, part-cons i t h k, e)

    pub first-last : t ≤ i → first_at p i (part text i t) ≡ i
    unfolding first_at
    first-last h = rw (part-empty i t h)
