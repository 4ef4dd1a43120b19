-- Laws of the blanks around a part. Assumes nothing.
use Prim.Native.Nat.{ℕ, suc, ◌+◌, ◌-◌, ◌≤◌, ◌<◌}
use lib.ListN.{length, get_or}
use mathlib.Core.Bool.{true, false}
use mathlib.Core.List.{List, [], ◌∷◌, ◌++◌}
use mathlib.Core.Path.{◌≡◌, refl, sym, ap, ◌∙◌}
use native.Mathlib.Numerals.{add-one}
use native.Mathlib.Omega.{arith}
use Rattle.file_spec.specs.Pieces.{is_blank, keep, back_trimmed, front_trimmed, trimmed}
use Rattle.file_text.specs.Steps.Spans.{part, piece_at}
use Rattle.file_text.proofs.Parts.{part-empty, part-cons, part-snoc}

-- a blank behind does not count, and any other byte stays
pub back-blank : (l : List ℕ) (b : ℕ) → is_blank b ≡ true → back_trimmed (l ++ (b ∷ [])) ≡ back_trimmed l
unfolding back_trimmed keep
back-blank [] b e = rw e
back-blank (a ∷ l) b e = rw (back-blank l b e)

keep-more : (a : ℕ) (l : List ℕ) (b : ℕ) → keep a (l ++ (b ∷ [])) ≡ a ∷ (l ++ (b ∷ []))
unfolding keep
keep-more a [] b = refl
keep-more a (c ∷ l) b = refl

pub back-other : (l : List ℕ) (b : ℕ) → is_blank b ≡ false → back_trimmed (l ++ (b ∷ [])) ≡ l ++ (b ∷ [])
unfolding back_trimmed keep
back-other [] b e = rw e
back-other (a ∷ l) b e = rw (back-other l b e) (keep-more a l b)

module _ (text : List ℕ) (from e : ℕ) (h : from < e) (k : e ≤ length text) where
  one : part text from e ≡ part text from (e - 1) ++ (get_or text (e - 1) 0 ∷ [])
  one = let s : e ≡ suc (e - 1) = omega arith in ap (part text from) s ∙ part-snoc text from (e - 1) (omega arith) (omega arith)

  pub back_more : is_blank (get_or text (e - 1) 0) ≡ true → back_trimmed (part text from e) ≡ back_trimmed (part text from (e - 1))
  back_more b = ap back_trimmed one ∙ back-blank (part text from (e - 1)) _ b

  pub back-stop : is_blank (get_or text (e - 1) 0) ≡ false → back_trimmed (part text from e) ≡ part text from e
  back-stop b = ap back_trimmed one ∙ back-other (part text from (e - 1)) _ b ∙ sym one

pub back_last : (text : List ℕ) (from e : ℕ) → e ≤ from → back_trimmed (part text from e) ≡ part text from e
unfolding back_trimmed
back_last text from e h = rw (part-empty text from e h)

module _ (text : List ℕ) (i t : ℕ) where
  pub front-stop : i < t → t ≤ length text → is_blank (get_or text i 0) ≡ false → front_trimmed i (part text i t) ≡ piece_at text i t
  unfolding front_trimmed piece_at
  front-stop h k b = rw (part-cons text i t h k, b)

  pub front-more : i < t → t ≤ length text → is_blank (get_or text i 0) ≡ true → front_trimmed i (part text i t) ≡ front_trimmed (i + 1) (part text (i + 1) t)
  unfolding front_trimmed
  front-more h k b = rw (add-one i, part-cons text i t h k, b)

  pub front-last : t ≤ i → front_trimmed i (part text i t) ≡ piece_at text i t
  unfolding front_trimmed piece_at
  front-last h = rw (part-empty text i t h)

-- both
pub trim-made : (text : List ℕ) (from to e f : ℕ) → part text from e ≡ back_trimmed (part text from to)
    → piece_at text f e ≡ front_trimmed from (part text from e) → piece_at text f e ≡ trimmed (piece_at text from to)
unfolding trimmed piece_at
trim-made text from to e f b g = rw (← b) g
