-- `districts_forests::next_row` meets its contract: the cheapest of the rows that cross, else of those that neither slice has. Assumes nothing.
use native.Mathlib.Omega.{arith}
use Rattle.districts_forests.proofs.Growing.{first_found, second-found}
use Rattle.districts_forests.proofs.next_row.Goals as goal

pub returns-then-i-ne0 : goal.returns-then-i-ne0
returns-then-i-ne0 c = first_found _ (rw (← c.xor.ensures) c.cheapest-i.ensures) (λ e. omega (arith, c.if-i-ne0.true))

pub returns : goal.returns
returns c =
    second-found {i = c.cheapest-i.result} (rw (← c.xor.ensures) c.cheapest-i.ensures) (omega (arith, c.if-i-ne0.false)) (rw (← c.without.ensures, ← c.without-2.ensures) c.cheapest.ensures)
