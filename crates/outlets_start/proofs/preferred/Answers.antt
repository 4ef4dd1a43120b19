-- `outlets_start::preferred` meets its contract: there is a row at r, or there is none. Assumes nothing.
use Prim.Native.Nat.{ℕ, zero, suc}
use lib.IntN.{ℤ}
use mathlib.Core.Bool.{Bool}
use mathlib.Core.Path.{◌≡◌, refl}
use Rattle.rowset.specs.Searches.{smallest}
use Rattle.rowset.specs.Sets.{first_of, uppermost}
use Rattle.slice.specs.Slices.{size}
use Rattle.outlets_start.proofs.preferred.Goals as goal

-- the row that is found is the uppermost lightest of the set
lightest : (w : ℕ → ℤ) (i : ℕ) (Y Z : ℕ → Bool) → i ≡ uppermost size (smallest size w Y) → Y ≡ Z → i ≡ uppermost size (smallest size w Z)
lightest w i Y Z e s = rw (← s) e

first-none : (i j k : ℕ) → i ≡ 0 → i ≡ j → k ≡ first_of j k
unfolding first_of
first-none i j k e q = rw (← q, e)

first_some : (i j k : ℕ) → (i ≡ 0 → ⊥) → i ≡ j → i ≡ first_of j k
unfolding first_of
first_some zero j k h e = absurd (h refl)
first_some (suc i) j k h e = rw (← e)

pub returns-then-here-eq0 : goal.returns-then-here-eq0
returns-then-here-eq0 c =
    rw (← c.cheapest.ensures) (first-none _ _ _ c.if-here-eq0.true (lightest _ _ _ _ c.cheapest-here.ensures c.and.ensures))

pub returns : goal.returns
returns c = first_some _ _ _ c.if-here-eq0.false (lightest _ _ _ _ c.cheapest-here.ensures c.and.ensures)
