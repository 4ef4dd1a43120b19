-- `path_walk::walk_found` meets its contract. The loop's invariant: where MATCH gives the rows with each end, the state is that after `k` steps from where the loop begins. Assumes nothing.
use Prim.Native.Nat.{◌-◌}
use Rattle.path_walk.specs.Steps.Walks.{State, step, steps}
use Rattle.slice_words.proofs.Laws.{component-words}
use Rattle.rowset.specs.Sets.{either}
use Rattle.rowset.specs.Words.{in_words}
use mathlib.Core.Path.{◌≡◌, refl, ap, ◌∙◌}
use native.Mathlib.Numerals.{add-one}
use native.Mathlib.Omega.{arith}
use Rattle.path_walk.proofs.Steps.{step-taken, step-none, steps-stay, begun}
use Rattle.path_walk.proofs.walk_found.Goals as goal

pub loop-k-init : goal.loop-k-init
unfolding steps
loop-k-init c = (omega arith, λ a b. refl, refl, omega arith, c.match_ends.ensures.size)

pub returns-then-i-eq0 : goal.returns-then-i-eq0
returns-then-i-eq0 c Each-left Each-right =
    let rows = in_words c.args.rows.now in
    let still = step-none _ _ rows (in_words c.loop-k.lefts) (in_words c.loop-k.rights) (in_words c.loop-k.reached) c.loop-k.own c.first_difference-i.ensures c.if-i-eq0.true in
    let same =
    steps-stay _ _ rows _ _ _ _ c.loop-k.invariant.0 (c.loop-k.invariant.1 Each-left Each-right) still
    ∙ begun _ _ rows _ _ _ c.empty.ensures c.write_column.ensures (c.match_ends.ensures.rows ∙ ap (either _) (Each-left _)) (c.match_ends-2.ensures.rows ∙ ap (either _) (Each-right _)) c.put_row.ensures.rows in
    record { vertices = component-words _ ∙ ap (λ (x : State). x.reached) same; paths = ap (λ (x : State). x.words) same }

pub loop-k-preserved : goal.loop-k-preserved
unfolding steps
loop-k-preserved c =
    let l = c.loop-k in
    let u = rw (c.row_in-ahead.ensures, c.end_at-a.ensures.end, c.end_at-b.ensures.end) at c.choose-u.ensures in
    let v = rw (c.row_in-ahead.ensures, c.end_at-a.ensures.end, c.end_at-b.ensures.end) at c.choose-v.ensures in (
      omega (arith, c.loop-k-test.true),
      λ Each-left Each-right.
          let rows = in_words c.args.rows.now in
          rw add-one
          (step-taken _ _ rows (in_words l.lefts) (in_words l.rights) (in_words l.reached) l.own _ _ _ c.first_difference-i.ensures c.if-i-eq0.false u v c.lead.ensures
          (c.match_ends-in-loop-k.ensures.rows ∙ ap (either _) (Each-left _))
          (c.match_ends-in-loop-k-2.ensures.rows ∙ ap (either _) (Each-right _))
          c.put_row-in-loop-k.ensures.rows
          ∙ ap (step _ _ rows) (l.invariant.1 Each-left Each-right)),
      omega (arith, l.invariant.2),
      l.invariant.3,
      c.match_ends-in-loop-k.ensures.size,
    )

pub returns : goal.returns
returns c Each-left Each-right =
    let rows = in_words c.args.rows.now in
    let all : c.loop-k.k ≡ c.args.n = omega (arith, c.loop-k.invariant.0) in
    let same =
    (rw all at (c.loop-k.invariant.1 Each-left Each-right))
    ∙ begun _ _ rows _ _ _ c.empty.ensures c.write_column.ensures (c.match_ends.ensures.rows ∙ ap (either _) (Each-left _)) (c.match_ends-2.ensures.rows ∙ ap (either _) (Each-right _)) c.put_row.ensures.rows in
    record { vertices = component-words _ ∙ ap (λ (x : State). x.reached) same; paths = ap (λ (x : State). x.words) same }
