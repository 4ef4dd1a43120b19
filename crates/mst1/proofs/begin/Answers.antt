-- `mst1::begin` meets its contract, by what its calls ensure: what MATCH gives, joined to no row, is all.
-- Assumes nothing.
use Prim.Native.Nat.{ℕ}
use mathlib.Core.Bool.{Bool}
use mathlib.Core.List.{List}
use mathlib.Core.Path.{◌≡◌, ◌∙◌, ap, ap₂}
use lib.ListN.{replicate}
use Rattle.search_join.specs.Steps.Ends.{ends_in, first_words, words_taken, EachEnd}
use Rattle.slice_words.proofs.Joining.{joined-none}
use Rattle.rowset.specs.Searches.{equal_to}
use Rattle.rowset.specs.Sets.{either}
use Rattle.rowset.specs.Words.{in_words}
use Rattle.slice.specs.Slices.{component, bit}
use Rattle.mst1.specs.Steps.Growth.{meeting}
use Rattle.mst1.proofs.begin.Goals as goal

-- MATCH joined to no row, for one end and for the other
two-joined : (q : ℕ) (ends x y : List ℕ) (f : ℕ → ℕ) (rows : ℕ → Bool) (u v i j : ℕ) → EachEnd q ends f rows → u ≡ i → v ≡ j
    → in_words x ≡ either (in_words (replicate 16 0)) (equal_to (ends_in ends) u (first_words (words_taken q) rows))
    → in_words y ≡ either (in_words x) (equal_to (ends_in ends) v (first_words (words_taken q) rows))
    → in_words y ≡ meeting f i j rows
two-joined q ends x y f rows u v i j each eu ev first second =
    second
    ∙ ap₂ either (joined-none x _ first ∙ each u ∙ ap (λ (w : ℕ). equal_to f w rows) eu) (each v ∙ ap (λ (w : ℕ). equal_to f w rows) ev)

pub returns : goal.returns
unfolding in_words component bit
returns c lefts rights =
    let v = c.end_at-v.ensures.end in
    let u = c.end_at-u.ensures.end in
    record {
      left = two-joined _ _ c.match_ends.new.x c.match_ends-2.new.x _ _ _ _ _ _ lefts u v c.match_ends.ensures.rows c.match_ends-2.ensures.rows;
      right = two-joined _ _ c.match_ends-3.new.x c.match_ends-4.new.x _ _ _ _ _ _ rights u v c.match_ends-3.ensures.rows c.match_ends-4.ensures.rows;
      one = rw (c.put.ensures, c.empty.ensures);
    }
