-- `outlets_swaps::exchanges` meets its contract. The loop's invariant: the rows, the path matrix and what is kept are those after i exchanges.
-- Assumes nothing.
use mathlib.Core.Path.{◌≡◌, refl}
use native.Mathlib.Omega.{arith}
use Rattle.mst1.specs.Steps.Growth.{chosen_in}
use Rattle.outlets_swaps.specs.Steps.Exchanges.{picked, exchanges_to}
use Rattle.outlets_swaps.proofs.Turns.{exchanges-stuck, own-made, own-stuck, exchanges-more, ends-none, ends-made}
use Rattle.slice.specs.Slices.{component}
use Rattle.outlets_swaps.proofs.exchanges.Goals as goal

pub loop-i-init : goal.loop-i-init
unfolding exchanges_to
loop-i-init c = refl

pub returns-then-f-eq0 : goal.returns-then-f-eq0
unfolding picked chosen_in
returns-then-f-eq0 c =
    let l = c.loop-i in record {
      left = ends-none (exchanges-stuck _ _ _ l.i _ _ _ l.invariant c.cheapest-f.ensures c.if-f-eq0.true c.loop-i-test.true) refl refl;
      own = own-stuck _ _ _ l.i _ (record { chosen = component l.chosen; own = l.own; out = l.out; cost = l.cost }) _ l.invariant c.cheapest-f.ensures c.if-f-eq0.true c.loop-i-test.true;
    }

pub loop-i-preserved : goal.loop-i-preserved
unfolding picked
loop-i-preserved c =
    let l = c.loop-i in
    exchanges-more _ _ _ l.i _ _ _ _ _ _ _ l.invariant c.cheapest-f.ensures c.if-f-eq0.false c.number_at-e.ensures c.swap-chosen.ensures.chosen c.swap-chosen.ensures.own c.find_again.ensures.out c.find_again.ensures.cost

pub returns : goal.returns
unfolding chosen_in
returns c =
    let l = c.loop-i in
    let all : l.i ≡ c.args.k = omega arith in record {
      left = ends-made {s = record { chosen = component l.chosen; own = l.own; out = l.out; cost = l.cost }} (rw (← all) l.invariant) refl;
      own = own-made _ _ _ _ (record { chosen = component l.chosen; own = l.own; out = l.out; cost = l.cost }) (rw (← all) l.invariant);
    }
