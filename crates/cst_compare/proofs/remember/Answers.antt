-- `cst_compare::remember` meets its contract, in each of its cases. Assumes nothing.
use Prim.Native.Nat.{ℕ}
use mathlib.Core.Bool.{Bool, true, false}
use mathlib.Core.Path.{◌≡◌, sym, ◌∙◌}
use borrow.Author.Tests.{eq-eqb, ne_eqb, not-true, not-false}
use Rattle.rowset.specs.Sets.{any}
use Rattle.slice.specs.Slices.{size}
use Rattle.cst_compare.specs.Steps.Compared.{remembered}
use Rattle.cst_compare.proofs.remember.Goals as goal

module _ (e : ℕ) (E : ℕ → Bool) (i : ℕ) where
  found-stays : (e ≡ 0 → ⊥) → e ≡ remembered e E i
  unfolding remembered
  found-stays n = rw (ne_eqb e 0 n)

  none_equal : e ≡ 0 → any size E ≡ false → 0 ≡ remembered e E i
  unfolding remembered
  none_equal z h = rw (eq-eqb e 0 z, h)

  one-equal : e ≡ 0 → any size E ≡ true → i ≡ remembered e E i
  unfolding remembered
  one-equal z h = rw (eq-eqb e 0 z, h)

pub returns-then-found-ne0 : goal.returns-then-found-ne0
returns-then-found-ne0 c = found-stays _ _ _ c.if-found-ne0.true

pub returns-then-zero : goal.returns-then-zero
returns-then-zero c = none_equal _ _ _ c.if-found-ne0.false (not-true _ (sym c.zero.ensures ∙ c.if-zero.true))

pub returns-else-zero : goal.returns-else-zero
returns-else-zero c = one-equal _ _ _ c.if-found-ne0.false (not-false _ (sym c.zero.ensures ∙ c.if-zero.false))
