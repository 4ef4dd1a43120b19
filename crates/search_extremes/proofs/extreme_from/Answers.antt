-- `search_extremes::extreme_from` meets its contract. The loop's invariant: z has the rows of x that come first in the columns read, of which the first is turned over, and none past the words that are read.
-- Assumes nothing.
use Prim.Native.Nat.{◌+◌}
use native.Mathlib.Omega.{arith}
use borrow.Author.Rules.{rules}
use Rattle.search_extremes.proofs.Loops.{sought-start, sought-all}
use Rattle.search_extremes.proofs.Preferred.{sought-next, sought-stopped, none-past-preferred}
use Rattle.search_extremes.proofs.extreme_from.Goals as goal

pub loop-j-init : goal.loop-j-init
loop-j-init c = (sought-start _ _ _ _, c.words_used-used.ensures.1, search rules)

pub slice_bounds-prefer_rows-end : goal.slice_bounds-prefer_rows-end
slice_bounds-prefer_rows-end c = omega (arith, c.loop-j.invariant.2)

pub prefer_rows-requires : goal.prefer_rows-requires
prefer_rows-requires c = (c.loop-j.invariant.2, c.words_used-used.ensures.0, c.loop-j.invariant.1)

pub returns-then-prefer_rows : goal.returns-then-prefer_rows
returns-then-prefer_rows c =
    let l = c.loop-j in
    sought-stopped _ _ _ _ _ (l.j + 1) (omega arith) (c.prefer_rows.ensures.last c.if-prefer_rows.true)
    (sought-next _ _ _ _ _ _ _ _ (omega arith) c.wanted-b.ensures c.prefer_rows.ensures.rows l.invariant.0)

pub loop-j-preserved : goal.loop-j-preserved
loop-j-preserved c =
    let l = c.loop-j in (
      sought-next _ _ _ _ _ _ _ _ (omega arith) c.wanted-b.ensures c.prefer_rows.ensures.rows l.invariant.0,
      none-past-preferred _ _ _ _ _ _ c.prefer_rows.ensures.rows l.invariant.1,
      omega (arith, l.invariant.2),
    )

pub returns : goal.returns
returns c = sought-all _ _ _ _ _ _ (omega arith) c.loop-j.invariant.0
