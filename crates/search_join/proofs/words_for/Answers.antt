-- `search_join::words_for` meets its contract. Assumes nothing.
use native.Mathlib.Omega.{arith}
use Rattle.search_join.proofs.Joining.{width_one, width_four, width-sixteen}
use Rattle.search_join.proofs.words_for.Goals as goal

pub returns-then-end-le-BITS : goal.returns-then-end-le-BITS
returns-then-end-le-BITS c =
    let e = c.last_row-end.ensures in (omega arith, λ i h. c.last_row-end.ensures.2 i (omega arith), width_one _ _ e.0 e.1 e.2 c.if-end-le-BITS.true)

pub returns-then-end : goal.returns-then-end
returns-then-end c =
    let e = c.last_row-end.ensures in (omega arith, λ i h. c.last_row-end.ensures.2 i (omega arith), width_four _ _ e.0 e.1 e.2 c.if-end-le-BITS.false (omega (arith, c.if-end.true)))

pub returns : goal.returns
returns c =
    (omega arith, λ i h. c.last_row-end.ensures.2 i (omega (arith, c.last_row-end.ensures.0)), width-sixteen _ _ c.last_row-end.ensures.0 c.last_row-end.ensures.1 c.last_row-end.ensures.2 (omega (arith, c.if-end.false)))
