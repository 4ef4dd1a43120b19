-- Laws of a line taken, and of the lines read. Assumes nothing.
use Prim.Native.Nat.{ℕ, ◌+◌, ◌≤◌, ◌<◌}
use borrow.Author.Tests.{ne_eqb, ltb-true, ltb-false}
use lib.Dec.{ltb}
use lib.ListN.{length, get_or, set}
use mathlib.Core.Bool.{Bool, true, false}
use mathlib.Core.List.{List, [], ◌∷◌}
use mathlib.Core.Path.{◌≡◌, refl, ap, ◌∙◌}
use native.Mathlib.Omega.{arith}
use Rattle.std.specs.Prelude.{Result, Err}
use Rattle.std.specs.Result.{IsErrAnd}
use Rattle.std.proofs.lemmas.Result.{err_from_is_err_and}
use Rattle.file_spec.specs.Pieces.{ends_line, first_at, lines}
use Rattle.file_text.specs.Steps.Spans.{part, piece_at}
use Rattle.file_text.proofs.Searches.{part-last, part-more}
use Rattle.file_spec.specs.Line as file
use Rattle.file_spec.specs.Line.{counting}
use Rattle.file_spec.specs.Reader.{Read, broken, read, with_told, recount, next, follow, read_lines}
use Rattle.file_reader.specs.Steps.State.{told_of, read_of, Sound}

module _ (text found s e l r w m k p : List ℕ) (v at : ℕ) where
  pub told-twice : get_or found 3 0 ≡ 1 → next (read_of text found s e l r w m k p) (counting v at) ≡ broken 24 at
  unfolding next recount read_of told_of
  told-twice h = rw h

  told-first : (get_or found 3 0 ≡ 1 → ⊥) → next (read_of text found s e l r w m k p) (counting v at) ≡ read (with_told (read_of text found s e l r w m k p) v)
  unfolding next recount read_of told_of
  told-first h = rw (ne_eqb (get_or found 3 0) 1 h)

five-told : (text s e l r w m k p : List ℕ) (f0 f1 f2 f3 f4 v : ℕ) →
    with_told (read_of text (f0 ∷ f1 ∷ f2 ∷ f3 ∷ f4 ∷ []) s e l r w m k p) v ≡ read_of text (f0 ∷ f1 ∷ f2 ∷ 1 ∷ v ∷ []) s e l r w m k p
unfolding with_told read_of told_of
five-told text s e l r w m k p f0 f1 f2 f3 f4 v = refl

told-read : (text found s e l r w m k p : List ℕ) (v : ℕ) → length found ≡ 5 → with_told (read_of text found s e l r w m k p) v ≡ read_of text (set (set found 3 1) 4 v) s e l r w m k p
told-read text [] s e l r w m k p v h = absurd (omega arith)
told-read text (f0 ∷ []) s e l r w m k p v h = absurd (omega arith)
told-read text (f0 ∷ f1 ∷ []) s e l r w m k p v h = absurd (omega arith)
told-read text (f0 ∷ f1 ∷ f2 ∷ []) s e l r w m k p v h = absurd (omega arith)
told-read text (f0 ∷ f1 ∷ f2 ∷ f3 ∷ []) s e l r w m k p v h = absurd (omega arith)
told-read text (f0 ∷ f1 ∷ f2 ∷ f3 ∷ f4 ∷ []) s e l r w m k p v h = five-told text s e l r w m k p f0 f1 f2 f3 f4 v
told-read text (f0 ∷ f1 ∷ f2 ∷ f3 ∷ f4 ∷ f5 ∷ fs) s e l r w m k p v h = absurd (omega arith)

pub told-once : (text found s e l r w m k p : List ℕ) (v at : ℕ) → (get_or found 3 0 ≡ 1 → ⊥) → length found ≡ 5
    → next (read_of text found s e l r w m k p) (counting v at) ≡ read (read_of text (set (set found 3 1) 4 v) s e l r w m k p)
told-once text found s e l r w m k p v at h five = told-first text found s e l r w m k p v at h ∙ ap read (told-read text found s e l r w m k p v five)

pub sound-told : (text found s e : List ℕ) (v : ℕ) → length found ≡ 5 → Sound text found s e → Sound text (set (set found 3 1) 4 v) s e
sound-told text [] s e v h o = absurd (omega arith)
sound-told text (f0 ∷ []) s e v h o = absurd (omega arith)
sound-told text (f0 ∷ f1 ∷ []) s e v h o = absurd (omega arith)
sound-told text (f0 ∷ f1 ∷ f2 ∷ fs) s e v h o = record { few-names = o.few-names; few-rows = o.few-rows; kept = o.kept }

-- an error that `?` hands on
pub handed-on : {A E : Type 0} {e : E} (r : Result A E) → IsErrAnd r (λ x. x ≡ e) → r ≡ Err e
handed-on r h =
    let p = err_from_is_err_and r h in
    p.1 ∙ ap Err p.2

-- one line, and those after it
module _ (text : List ℕ) (at e : ℕ) (h : at ≤ length text) (q : e ≡ first_at ends_line at (part text at (length text))) (r : Read) where
  last-pieces : e ≡ length text → lines at (part text at (length text)) ≡ piece_at text at e ∷ []
  unfolding lines
  last-pieces z = part-last text at (length text) h (omega arith) ends_line e q z ∙ (rw z)

  more-pieces : e < length text → lines at (part text at (length text)) ≡ piece_at text at e ∷ lines (e + 1) (part text (e + 1) (length text))
  unfolding lines
  more-pieces l = part-more text at (length text) h (omega arith) ends_line e q l

  pub one-line : e ≤ length text → (l : file.Line) → l ≡ file.line_of (piece_at text at e) → (n p : ℕ) → next r l ≡ broken n p → read_lines r (lines at (part text at (length text))) ≡ broken n p
  unfolding read_lines follow
  one-line b l el n p x = go (ltb e (length text)) refl
    where
      go : (t : Bool) → ltb e (length text) ≡ t → read_lines r (lines at (part text at (length text))) ≡ broken n p
      go true g = rw (more-pieces (ltb-true e (length text) g), ← el, x)
      go false g = rw (last-pieces (omega (arith, ltb-false e (length text) g)), ← el, x)

  module _ (r' : Read) (l : file.Line) (el : l ≡ file.line_of (piece_at text at e)) (x : next r l ≡ read r') where
    pub last-line : e ≡ length text → read_lines r (lines at (part text at (length text))) ≡ read r'
    unfolding read_lines follow
    last-line z = rw (last-pieces z, ← el, x)

    pub more-lines : e < length text → read_lines r (lines at (part text at (length text))) ≡ read_lines r' (lines (e + 1) (part text (e + 1) (length text)))
    unfolding read_lines follow
    more-lines g = rw (more-pieces g, ← el, x)
