-- `districts_forests::grow_forest` meets its contract. The loop's invariant: the slices are those of the forest after k rows.
-- Assumes nothing.
use native.Mathlib.Omega.{arith}
use Rattle.districts_forests.proofs.Growing.{grew_none, grew-ended, grew-more, grew-whole, joined-both}
use Rattle.slice_words.proofs.Joining.{zeros-none}
use Rattle.rowset.specs.Words.{in_words}
use Rattle.slice.specs.Slices.{component, bit}
use Rattle.districts_forests.proofs.grow_forest.Goals as goal

pub loop-k-init : goal.loop-k-init
unfolding in_words component bit
loop-k-init c = grew_none _ _ zeros-none zeros-none zeros-none

pub returns-then-i-eq0 : goal.returns-then-i-eq0
unfolding in_words component bit
returns-then-i-eq0 c = grew-ended _ _ _ c.args.rows _ c.loop-k.invariant c.next_row-i.ensures (omega arith) c.if-i-eq0.true

pub loop-k-preserved : goal.loop-k-preserved
unfolding in_words component bit
loop-k-preserved c =
    let rows = c.args.rows in
    grew-more _ _ _ rows _ c.loop-k.invariant c.next_row-i.ensures (omega (arith, c.if-i-eq0.false)) c.end_at-u.ensures.end c.end_at-v.ensures.end
    (joined-both _ _ _ (component rows) _ _ _ c.requires.0 c.match_ends.ensures.rows c.match_ends-in-loop-k.ensures.rows)
    (joined-both _ _ _ (component rows) _ _ _ c.requires.1 c.match_ends-in-loop-k-2.ensures.rows c.match_ends-in-loop-k-3.ensures.rows)
    c.put_row.ensures.rows

pub returns : goal.returns
unfolding in_words component bit
returns c = grew-whole _ _ _ c.args.rows _ c.loop-k.invariant (omega arith)
