-- `outlets_start::grow` meets its contract. The loop's invariant: where MATCH gives the rows with each end, the slices are those of the fragment of k vertices.
-- Assumes nothing.
use mathlib.Core.Path.{refl, ◌∙◌, ap, ap₂}
use native.Mathlib.Omega.{arith}
use Rattle.mst1.specs.Steps.Growth.{chosen_in}
use Rattle.rowset.specs.Sets.{either}
use Rattle.rowset.specs.Words.{in_words}
use Rattle.slice.specs.Slices.{component, bit}
use Rattle.outlets_start.proofs.Growth.{joined-two, starts_none, starts-whole, preferred-row, crossing-row, none_first, begins, none-next, begun_more}
use Rattle.outlets_start.proofs.grow.Goals as goal

pub returns-then-i-eq0 : goal.returns-then-i-eq0
unfolding chosen_in
returns-then-i-eq0 c =
    let given = c.requires in
    let row = preferred-row _ _ _ _ _ _ given.1 refl (λ k e. e) c.preferred-i.ensures in
    starts_none _ _ _ _ _ _ (none_first _ _ _ _ _ _ row c.if-i-eq0.true given.0) refl refl

pub loop-k-init : goal.loop-k-init
unfolding in_words component bit
loop-k-init c =
    λ ml mr e row.
    begins _ _ _ _ _ _ _ _ _ row (omega (arith, c.if-i-eq0.false)) c.end_at-a.ensures.end c.end_at-b.ensures.end
    (joined-two _ _ c.match_ends.new.x c.match_ends.ensures.rows c.match_ends-2.ensures.rows ∙ ap₂ either (ml _) (ml _))
    (joined-two _ _ c.match_ends-3.new.x c.match_ends-3.ensures.rows c.match_ends-4.ensures.rows ∙ ap₂ either (mr _) (mr _))
    c.put_row.ensures.rows

pub returns-then-j-eq0 : goal.returns-then-j-eq0
unfolding in_words component bit chosen_in
returns-then-j-eq0 c =
    let given = c.requires in
    let row = preferred-row _ _ _ _ _ _ given.1 refl (λ k e. e) c.preferred-i.ensures in
    let begun = c.loop-k.invariant given.2 given.3 given.1 row in
    let next = preferred-row _ _ _ _ _ _ given.1 c.xor-crossing.ensures (crossing-row _ _ _ _ _ _ begun) c.preferred-j.ensures in
    starts_none _ _ _ _ _ _ (none-next _ _ _ _ _ _ begun next c.if-j-eq0.true c.loop-k-test.true) refl refl

pub loop-k-preserved : goal.loop-k-preserved
unfolding in_words component bit
loop-k-preserved c =
    let l = c.loop-k in
    λ ml mr e row.
    let begun = l.invariant ml mr e row in
    begun_more _ _ _ _ _ _ begun _ _
    (preferred-row _ _ _ _ _ _ e c.xor-crossing.ensures (crossing-row _ _ _ _ _ _ begun) c.preferred-j.ensures)
    (omega (arith, c.if-j-eq0.false))
    (rw c.row_in.ensures at c.far_end-far.ensures)
    (c.match_ends-in-loop-k.ensures.rows ∙ ap (either (in_words l.x)) (ml _))
    (c.match_ends-in-loop-k-2.ensures.rows ∙ ap (either (in_words l.y)) (mr _))
    c.put_row-in-loop-k.ensures.rows

pub returns : goal.returns
unfolding in_words component bit chosen_in
returns c =
    let given = c.requires in
    let row = preferred-row _ _ _ _ _ _ given.1 refl (λ k e. e) c.preferred-i.ensures in
    starts-whole _ _ _ _ _ _ (c.loop-k.invariant given.2 given.3 given.1 row) (omega (arith, given.0))
