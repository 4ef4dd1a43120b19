-- `slice::words::write_row` meets its contract. Assumes nothing.
use Prim.Native.Nat.{ℕ, ◌*◌, ◌-◌, ◌/◌, ◌%◌, ◌^◌, ◌<◌, ◌≤◌}
use mathlib.Core.Bool.{true, false}
use mathlib.Core.Path.{◌≡◌, sym, ap, ◌∙◌}
use borrow.Author.Rules.{rules}
use lib.Bits.{bit_and, bit_or}
use lib.ListN.{length, get_or, set}
use lib.Pow.{shl_exact}
use native.Mathlib.Omega.{arith}
use Rattle.slice.specs.Slices.{size, written}
use mathlib.Core.List.{List}
use Rattle.rowset.specs.Words.{in_words}
use Rattle.slice.proofs.Bits.{bit-set, bit-clear}
use Rattle.slice.proofs.Laws.{component-set, words-component, written-outside}
use Rattle.slice.proofs.Sets.{up_to-inside, up_to-outside}
use Rattle.slice.proofs.words.write_row.Goals as goal

-- the mask: 1 shifted by less than 64 does not wrap
mask : (k : ℕ) → k < 64 → (1 * 2 ^ k) % 2 ^ 64 ≡ 2 ^ k
mask k h = shl_exact 1 k 64 (omega arith) (omega arith) ∙ omega arith

-- the words after the bit of component i is set, and after it is cleared
module _ (l : List ℕ) (i : ℕ) (words : length l ≡ 16) (low : 1 ≤ i) (high : i ≤ size) where
  set-bit : in_words (set l ((i - 1) / 64) (bit_or (get_or l ((i - 1) / 64) 0) ((1 * 2 ^ ((i - 1) % 64)) % 2 ^ 64))) ≡ written (in_words l) i true
  set-bit =
      simp words-component
      (component-set (record { words = l }) i true _ words (up_to-inside size i low high) (λ j h. rw (mask ((i - 1) % 64) (omega arith)) (bit-set _ _ j)))

  clear-bit :
      in_words (set l ((i - 1) / 64) (bit_and (get_or l ((i - 1) / 64) 0) ((2 ^ 64 - 1) - (1 * 2 ^ ((i - 1) % 64)) % 2 ^ 64))) ≡ written (in_words l) i false
  clear-bit =
      simp words-component
      (component-set (record { words = l }) i false _ words (up_to-inside size i low high) (λ j h. rw (mask ((i - 1) % 64) (omega arith)) (bit-clear _ _ j (omega arith) h)))

pub returns-then-i-lt1-clause-rows : goal.returns-then-i-lt1-clause-rows
returns-then-i-lt1-clause-rows c = sym (written-outside _ _ _ (up_to-outside size c.args.i c.then-i-lt1.either))

pub returns-then-b-clause-rows : goal.returns-then-b-clause-rows
returns-then-b-clause-rows c =
    set-bit _ c.args.i (search rules) (omega arith) (omega arith)
    ∙ ap (written _ _) (sym c.if-b.true)

pub returns-else-b-clause-rows : goal.returns-else-b-clause-rows
returns-else-b-clause-rows c =
    clear-bit _ c.args.i (search rules) (omega arith) (omega arith)
    ∙ ap (written _ _) (sym c.if-b.false)
