-- `mst1::grow_from` meets its contract. The loop's invariant: the slices are those of the fragment of k vertices.
-- Assumes nothing.
use Prim.Native.Nat.{◌-◌}
use native.Mathlib.Omega.{arith}
use mathlib.Core.Logic.{⊎_elim}
use mathlib.Core.Path.{refl, ap, ◌∙◌}
use borrow.Author.Rules.{rules}
use Rattle.rowset.specs.Sets.{either}
use Rattle.rowset.specs.Words.{in_words}
use Rattle.slice.specs.Slices.{component, bit}
use Rattle.mst1.proofs.Growth.{grows_none, grows-whole, cheapest-row, extend-reached}
use Rattle.mst1.proofs.Steps.{next-none}
use Rattle.mst1.specs.Steps.Growth.{chosen_in}
use Rattle.mst1.proofs.grow_from.Goals as goal

pub loop-k-init : goal.loop-k-init
unfolding in_words component bit
loop-k-init c = let p = c.requires in (p.0, p.3, omega arith, search rules)

pub returns-then-i-eq0 : goal.returns-then-i-eq0
unfolding chosen_in in_words component bit
returns-then-i-eq0 c =
    let rows = c.args.rows in
    let none_left = cheapest-row _ _ _ rows _ refl c.xor.ensures c.cheapest-i.ensures ∙ c.if-i-eq0.true in
    grows_none _ _ (next-none _ _ _ _ _ _ c.loop-k.invariant.1 none_left c.loop-k-test.true) refl refl

pub loop-k-preserved : goal.loop-k-preserved
unfolding in_words component bit
loop-k-preserved c =
    let rows = c.args.rows in
    let l = c.loop-k in (
      omega (arith, c.loop-k-test.true),
      extend-reached _ _ _ rows _ l.invariant.1
          (cheapest-row _ _ _ rows _ refl c.xor.ensures c.cheapest-i.ensures)
          (omega (arith, c.if-i-eq0.false))
          (⊎_elim
          (λ w. rw (← c.row_in.ensures, w.if-row_in.true) (w.far-is ∙ w.end_at-far.ensures.end))
          (λ w. rw (← c.row_in.ensures, w.if-row_in.false) (w.far-is ∙ w.end_at-far-else-row_in.ensures.end))
          c.if-row_in.branch-raw)
          refl
          refl
          (c.match_ends.ensures.rows ∙ ap (either _) (c.requires.1 _))
          (c.match_ends-in-loop-k.ensures.rows ∙ ap (either _) (c.requires.2 _))
          c.put_row.ensures.rows,
      l.invariant.2,
      c.match_ends.ensures.size,
    )

pub returns : goal.returns
unfolding chosen_in in_words component bit
returns c = grows-whole _ _ c.loop-k.invariant.1 (omega arith)
