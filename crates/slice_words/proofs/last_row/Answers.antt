-- `slice_words::last_row` meets its contract. The loop's invariant: the words from k on are 0.
-- Assumes nothing.
use Prim.Native.Nat.{ℕ, ◌+◌, ◌-◌, ◌*◌, ◌≤◌, ◌<◌}
use mathlib.Core.Bool.{true, false}
use mathlib.Core.List.{List}
use mathlib.Core.Logic.{by_cases}
use mathlib.Core.Path.{◌≡◌, ap, ◌∙◌}
use native.Mathlib.Decide.{dec_le}
use native.Mathlib.Omega.{arith}
use lib.ListN.{get_or}
use Rattle.rowset.specs.Words.{in_words}
use Rattle.slice.proofs.Bits.{bit-of-zero}
use Rattle.slice.proofs.Laws.{component-above}
use Rattle.slice.specs.Slices.{size, bit}
use Rattle.slice_words.proofs.Laws.{words-component, words-at}
use Rattle.slice_words.proofs.last_row.Invariants.{Past}
use Rattle.slice_words.proofs.last_row.Goals as goal

-- past all sixteen words there is none
past_all : (l : List ℕ) → Past l 16
past_all l i h = rw words-component (component-above (record { words = l }) i (omega arith))

module _ (l : List ℕ) (k : ℕ) (h : k < 16) (past : (i : ℕ) → 64 * k + 64 < i → in_words l i ≡ false) where
  -- a position after those of the words below k is one of word k, or past it
  in-word : (i : ℕ) → 64 * k < i → i ≤ 64 * k + 64 → in_words l i ≡ bit (get_or l k 0) (i - 1 - 64 * k)
  in-word i low high =
      let at : i ≡ 64 * k + (i - 1 - 64 * k) + 1 = omega arith in
      ap (in_words l) at ∙ words-at l k (i - 1 - 64 * k) h (omega arith)

  -- a word that is 0
  past_more : get_or l k 0 ≡ 0 → Past l k
  past_more e i low =
      by_cases (dec_le i (64 * k + 64)) (λ u. in-word i low u ∙ ap (λ (w : ℕ). bit w (i - 1 - 64 * k)) e ∙ bit-of-zero _) (λ o. past i (omega arith))

  -- the highest bit of one that is not
  last : (z : ℕ) → z < 64 → bit (get_or l k 0) z ≡ true → ((j : ℕ) → z < j → bit (get_or l k 0) j ≡ false)
      → (64 * k + z + 1 ≤ size) × (0 < 64 * k + z + 1 → in_words l (64 * k + z + 1) ≡ true) × ((i : ℕ) → 64 * k + z + 1 < i → in_words l i ≡ false)
  last z s e above = (
    omega arith,
    λ p. words-at l k z h s ∙ e,
    λ i low. by_cases (dec_le i (64 * k + 64)) (λ u. in-word i (omega arith) u ∙ above _ (omega arith)) (λ o. past i (omega arith)),
  )

pub loop-k-init : goal.loop-k-init
loop-k-init c = past_all _

pub returns-then-w-ne0 : goal.returns-then-w-ne0
returns-then-w-ne0 c =
    let (small, set, above) = c.highest.ensures in
    let l = c.loop-k in
    last _ (l.k - 1) (omega arith) (λ i o. l.invariant i (omega arith)) _ small set above

pub loop-k-preserved : goal.loop-k-preserved
loop-k-preserved c =
    let l = c.loop-k in
    past_more _ (l.k - 1) (omega arith) (λ i o. l.invariant i (omega arith)) c.if-w-ne0.false

pub returns : goal.returns
returns c = let l = c.loop-k in (omega arith, λ o. absurd (omega arith), λ i o. l.invariant i (omega arith))
