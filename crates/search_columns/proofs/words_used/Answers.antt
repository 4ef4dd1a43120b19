-- `search_columns::words_used` meets its contract. The loop's invariant: the words from k on are 0, so that the last that is not 0 is among the first k.
-- Assumes nothing.
use Prim.Native.Nat.{ℕ, zero, suc, ◌≤◌, ◌<◌, ◌-◌}
use borrow.Author.Tests.{eq-eqb, ne_eqb}
use native.Mathlib.Nat.{eq-or-lt_of_le}
use native.Mathlib.Omega.{arith}
use mathlib.Core.List.{List}
use mathlib.Core.Logic.{◌⊎◌, inl, inr, ⊎_elim, ◌≢◌}
use mathlib.Core.Path.{◌≡◌, refl, sym, ap, ◌∙◌}
use lib.ListN.{get_or}
use Rattle.search_columns.specs.Steps.Rows.{last_word}
use Rattle.search_columns.proofs.Words.{none-past}
use Rattle.search_columns.proofs.words_used.Goals as goal

-- the last word of k that is not 0: word k itself, or one before it
last-here : (z : List ℕ) (k : ℕ) → 0 < k → get_or z (k - 1) 0 ≢ 0 → last_word z k ≡ k
unfolding last_word
last-here z zero l h = absurd (omega arith)
last-here z (suc k) l h =
    let e : suc k - 1 ≡ k = omega arith in
    let g : get_or z k 0 ≢ 0 = rw e at h in
    rw (ne_eqb (get_or z k 0) 0 g)

last-before : (z : List ℕ) (k : ℕ) → 0 < k → get_or z (k - 1) 0 ≡ 0 → last_word z k ≡ last_word z (k - 1)
unfolding last_word
last-before z zero l h = absurd (omega arith)
last-before z (suc k) l h =
    let e : suc k - 1 ≡ k = omega arith in
    let g : get_or z k 0 ≡ 0 = rw e at h in
    rw (eq-eqb (get_or z k 0) 0 g, e)

-- an index from k - 1 on is k - 1 or from k on
pick : (k p : ℕ) → k - 1 ≤ p → (p ≡ k - 1) ⊎ (k ≤ p)
pick k p h = ⊎_elim (λ e. inl (sym e)) (λ o. inr (omega arith)) (eq-or-lt_of_le h)

last_none : (z : List ℕ) (k : ℕ) → k ≤ 0 → last_word z k ≡ 0
unfolding last_word
last_none z zero l = refl
last_none z (suc k) l = absurd (omega arith)

pub loop-k-init : goal.loop-k-init
loop-k-init c = (omega arith, λ p h u. absurd (omega arith), refl)

pub returns-then-z-k-ne0 : goal.returns-then-z-k-ne0
returns-then-z-k-ne0 c =
    let l = c.loop-k in
    (omega (arith, l.invariant.0), none-past (record { words = c.args.z.now }) l.k _ (omega arith) l.invariant.1, omega (arith, l.invariant.2, last-here c.args.z.now l.k c.loop-k-test.true c.if-z-k-ne0.true))

pub loop-k-preserved : goal.loop-k-preserved
loop-k-preserved c =
    let l = c.loop-k in
    let z = c.args.z.now in
    let here : get_or z (l.k - 1) 0 ≡ 0 = c.if-z-k-ne0.false in (
      omega (arith, l.invariant.0),
      λ p h u. ⊎_elim (λ e. ap (λ a. get_or z a 0) e ∙ here) (λ o. l.invariant.1 p (omega arith) u) (pick l.k p h),
      l.invariant.2 ∙ last-before z l.k c.loop-k-test.true here,
    )

pub returns : goal.returns
returns c =
    let l = c.loop-k in (omega arith, none-past (record { words = c.args.z.now }) l.k 0 (omega arith) l.invariant.1, omega (arith, l.invariant.2, last_none c.args.z.now l.k c.loop-k-test.false))
