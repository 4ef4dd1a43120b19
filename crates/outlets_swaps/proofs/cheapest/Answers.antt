-- `outlets_swaps::cheapest` meets its contract. The loop's invariant: the cheapest of the rows 1 to j. Assumes nothing.
use Prim.Native.Nat.{ℕ, suc, ◌+◌, ◌-◌}
use lib.ListN.{length, get_or}
use mathlib.Core.List.{List}
use mathlib.Core.Path.{◌≡◌, refl, ap}
use native.Mathlib.Numerals.{add-one}
use native.Mathlib.Omega.{arith}
use Rattle.outlets_kept.specs.Steps.Offers.{Pick, no_pick, cheaper, cheapest_to}
use Rattle.outlets_swaps.specs.Steps.Columns.{pick_of}
use Rattle.outlets_swaps.specs.Steps.Exchanges.{number_of}
use Rattle.outlets_swaps.proofs.cheapest.Goals as goal

-- one row more
next : (l : List ℕ) (j : ℕ) (o p : Pick) → o ≡ cheapest_to (number_of l) j → p ≡ cheaper o (j + 1) (get_or l j 0) → p ≡ cheapest_to (number_of l) (j + 1)
unfolding cheapest_to
next l j o p e q =
    let s : suc j - 1 ≡ j = omega arith in
    rw (add-one, ← e, s) (rw add-one at q)

pub loop-j-init : goal.loop-j-init
unfolding cheapest_to no_pick
loop-j-init c = refl

pub loop-j-preserved : goal.loop-j-preserved
loop-j-preserved c =
    let l = c.loop-j in
    next c.args.cost.now l.j (pick_of l.best) (pick_of c.cheaper-best.result) l.invariant c.cheaper-best.ensures

pub returns : goal.returns
returns c =
    let l = c.loop-j in
    let all : l.j ≡ length c.args.cost.now = omega arith in
    rw (← all) (ap (λ (o : Pick). o.row) l.invariant)
