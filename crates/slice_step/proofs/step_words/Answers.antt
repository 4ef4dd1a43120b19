-- `slice_step::step_words` meets its contract: where a slice first differs from Θ is its uppermost component. Assumes nothing.
use Prim.Native.Nat.{ℕ}
use mathlib.Core.Bool.{Bool, true, false, xor}
use mathlib.Core.List.{List, replicate}
use mathlib.Core.Path.{◌≡◌, refl, ap, fun_ext, ◌∙◌}
use Rattle.rowset.specs.Sets.{one_of, empty, take_out, uppermost}
use Rattle.rowset.specs.Words.{in_words}
use Rattle.slice.proofs.Laws.{written-false}
use Rattle.slice.specs.Slices.{size, written}
use Rattle.slice_words.proofs.Laws.{words-component}
use Rattle.slice_words.proofs.Joining.{zeros-none}
use Rattle.slice_step.proofs.step_words.Goals as goal

-- what differs from Θ
from-none : (p : ℕ → Bool) → one_of p (in_words (replicate 16 0)) ≡ p
unfolding one_of empty xor
from-none p = ap (one_of p) (words-component (replicate 16 0) ∙ zeros-none) ∙ fun_ext (λ i. go (p i))
  where
    go : (b : Bool) → xor b false ≡ b
    go true = refl
    go false = refl

cleared : (l : List ℕ) (i : ℕ) → written (in_words l) i false ≡ take_out (in_words l) i
cleared l i = simp words-component (written-false (record { words = l }) i)

pub returns : goal.returns
returns c =
    let at = c.first_difference-at.ensures ∙ ap (uppermost size) (from-none _) in record {
      at = at;
      rows = c.write_row.ensures.rows ∙ cleared _ _ ∙ ap (take_out _) at;
      size = c.write_row.ensures.size;
    }
