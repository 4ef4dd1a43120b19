-- Laws of sets of rows as words: the components of the words of a set.
-- Assumes nothing.
use Prim.Native.Nat.{ℕ}
use mathlib.Core.Bool.{Bool}
use mathlib.Core.Path.{◌≡◌, refl, sym, ◌∙◌}
use native.Mathlib.Omega.{arith}
use Rattle.path_matrix.proofs.Laws.{component-words}
use Rattle.rowset.specs.Sets.{up_to, both, count}
use Rattle.rowset.specs.Words.{in_words}
use Rattle.rowset.proofs.Laws.{up_to-in, both-inside, count-bound}
use Rattle.slice.specs.Slices.{size}
use Rattle.slice.proofs.Laws.{same-words}
use Rattle.change_spec.specs.Changes.{words_of}

-- the words of a set hold its rows of 1 to 1,024
pub words-hold : (p : ℕ → Bool) → in_words (words_of p) ≡ both (up_to size) p
words-hold p = sym (same-words (record { words = words_of p }) (words_of p) (λ k h. refl)) ∙ component-words p

-- the words of the first rows, as many as belong
pub first_rows : (p : ℕ → Bool) → both (up_to size) (up_to (count size p)) ≡ up_to (count size p)
first_rows p = both-inside size (up_to (count size p)) (λ i e. let h = up_to-in (count size p) i e in (h.0, omega (arith, h.1, count-bound size p)))
