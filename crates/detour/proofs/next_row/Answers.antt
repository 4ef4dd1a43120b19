-- `detour::next_row` meets its contract, in both of its cases. Assumes nothing.
use Prim.Native.Nat.{ℕ}
use borrow.Author.Tests.{not-true, not-false}
use lib.IntN.{ℤ}
use mathlib.Core.Bool.{Bool, true, false}
use mathlib.Core.Path.{◌≡◌, sym, ◌∙◌}
use Rattle.rowset.specs.Searches.{smallest}
use Rattle.rowset.specs.Sets.{any, uppermost}
use Rattle.slice.specs.Slices.{size}
use Rattle.detour.specs.Steps.Machine.{next_in}
use Rattle.detour.proofs.next_row.Goals as goal

none-next : (w : ℕ → ℤ) (x y : ℕ → Bool) → any size y ≡ false → 0 ≡ next_in w x y
unfolding next_in
none-next w x y h = rw h

some_next : (w : ℕ → ℤ) (x y : ℕ → Bool) → any size y ≡ true → uppermost size (smallest size w x) ≡ next_in w x y
unfolding next_in
some_next w x y h = rw h

pub returns-then-zero : goal.returns-then-zero
returns-then-zero c = none-next _ _ _ (not-true _ (sym c.zero.ensures ∙ c.if-zero.true))

pub returns : goal.returns
returns c = c.cheapest.ensures ∙ some_next _ _ _ (not-false _ (sym c.zero.ensures ∙ c.if-zero.false))
