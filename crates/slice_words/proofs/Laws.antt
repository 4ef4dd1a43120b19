-- Laws of slices as words: where two slices differ first, and that a slice has the components of its words.
-- Assumes nothing.
use Prim.Native.Nat.{ℕ, suc, ◌+◌, ◌-◌, ◌*◌, ◌<◌, ◌≤◌}
use mathlib.Core.Bool.{Bool, true, false, xor}
use mathlib.Core.List.{List}
use mathlib.Core.Logic.{by_cases}
use mathlib.Core.Path.{◌≡◌, sym, ap, ap₂, ◌∙◌}
use native.Mathlib.Decide.{dec_le}
use native.Mathlib.Numerals.{add-one}
use native.Mathlib.Omega.{arith}
use lib.Bits.{bit_xor}
use lib.ListN.{get_or}
use Rattle.rowset.proofs.Laws.{uppermost-is}
use Rattle.rowset.specs.Sets.{one_of, uppermost}
use Rattle.rowset.specs.Words.{in_words}
use Rattle.slice.proofs.Bits.{bit-op, xor-bitwise, bit-of-zero}
use Rattle.slice.proofs.Laws.{component-at}
pub use Rattle.slice.proofs.Laws.{component-words, words-component}
use Rattle.slice.specs.Slices.{size, bit}

-- no position in the words below word k belongs
abbrev pub Clear : (ℕ → Bool) → ℕ → Type 0
Clear p k = (i : ℕ) → 1 ≤ i → i ≤ 64 * k → p i ≡ false

-- a set whose positions in word k are the bits of the number w
module _ (p : ℕ → Bool) (k w : ℕ) (h : k < 16) (word : (j : ℕ) → j < 64 → p (64 * k + j + 1) ≡ bit w j) (below : Clear p k) where
  in-word : (i : ℕ) → 64 * k < i → i ≤ 64 * k + 64 → p i ≡ bit w (i - 1 - 64 * k)
  in-word i l g =
      let at : i ≡ 64 * k + (i - 1 - 64 * k) + 1 = omega arith in
      ap p at ∙ word (i - 1 - 64 * k) (omega arith)

  -- where w is 0, no position of word k belongs
  pub clear-more : w ≡ 0 → Clear p (k + 1)
  clear-more e i l g =
      by_cases (dec_le i (64 * k)) (λ o. below i l o) (λ o. in-word i (omega arith) (omega arith) ∙ ap (λ (a : ℕ). bit a (i - 1 - 64 * k)) e ∙ bit-of-zero (i - 1 - 64 * k))

  -- where it is not, its lowest bit is the uppermost position
  pub found : (z : ℕ) → z < 64 → bit w z ≡ true → ((j : ℕ) → j < z → bit w j ≡ false) → 64 * k + z + 1 ≡ uppermost size p
  found z s e lower =
      let next : 64 * k + z + 1 ≡ suc (64 * k + z) = add-one (64 * k + z) in
      next
      ∙ sym (uppermost-is size (64 * k + z) p (omega arith) (ap p (sym next) ∙ word z s ∙ e)
      (λ i l g. by_cases (dec_le i (64 * k)) (λ q. below i l q) (λ q. in-word i (omega arith) (omega arith) ∙ lower (i - 1 - 64 * k) (omega arith))))

-- bit j of word k of lent words is component 64 * k + j + 1
pub words-at : (l : List ℕ) (k j : ℕ) → k < 16 → j < 64 → in_words l (64 * k + j + 1) ≡ bit (get_or l k 0) j
words-at l k j hk hj = ap (λ p. p (64 * k + j + 1)) (words-component l) ∙ component-at (record { words = l }) k j hk hj

-- what two slices differ in, by the words
pub differ-at : (l m : List ℕ) (k : ℕ) → k < 16 → (j : ℕ) → j < 64 → one_of (in_words l) (in_words m) (64 * k + j + 1) ≡ bit (bit_xor (get_or l k 0) (get_or m k 0)) j
unfolding one_of
differ-at l m k h j g = ap₂ xor (words-at l k j h g) (words-at m k j h g) ∙ sym (bit-op bit_xor xor xor-bitwise (get_or l k 0) (get_or m k 0) j)
